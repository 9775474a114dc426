-- The recursion over blocks is the recursion over single variables.
use Rattle.std.proofs.Common.{◌≡◌, ℕ, zero, suc, ◌+◌, ◌-◌, ◌^◌, Bool, true, false, ◌&&◌, ◌||◌, List, [], ◌∷◌, ◌++◌, length, drop, sym, refl, ap, ◌∙◌, ap₂, add-zero, add-suc, pow-suc, arith}
use mathlib.Core.Path.{fun_ext}
use lib.Bits.{bit_or, or_zero_r}
use Rattle.truth.specs.declared.literal.Quantifier.{Quantifier}
use Rattle.truth.specs.declared.literal.Quantifier.TheVariants.{Existential, Universal}
use Rattle.truth.specs.declared.literal.Clause.{Clause}
use Rattle.truth.specs.Truth.{made_true, made_false, below, wins, won, whole}
use Rattle.truth.specs.Plain.{BoundVariable, bind_before, single, either, plain}
use Rattle.truth.specs.Decided.{true_after, false_after}
use Rattle.truth.specs.TruthLaws.{MasksPlain, DecidedPlain, FormulasPlain}
use Rattle.truth.proofs.Bits.{or_assoc}
use Rattle.truth.proofs.Members.{Mem, Mem.here, Mem.there, below_mem}
use Rattle.truth.proofs.Rests.{rest-rest, rest_empty, rest-whole, whole_small, joint_rest}
use Rattle.truth.proofs.Values.{true_low, false_low, true_high, false_high}

either_assoc : (q : Quantifier) (a b c : Bool) → either q (either q a b) c ≡ either q a (either q b c)
either_assoc Existential true b c = refl
either_assoc Existential false b c = refl
either_assoc Universal true b c = refl
either_assoc Universal false b c = refl

either-none : (q : Quantifier) (p : ℕ → Bool) (a : Bool) → a ≡ either q a (wins q p [])
either-none Existential p true = refl
either-none Existential p false = refl
either-none Universal p true = refl
either-none Universal p false = refl

wins_cons : (q : Quantifier) (p : ℕ → Bool) (v : ℕ) (vs : List ℕ) → wins q p (v ∷ vs) ≡ either q (p v) (wins q p vs)
wins_cons Existential p v vs = refl
wins_cons Universal p v vs = refl

none-either : (q : Quantifier) (p : ℕ → Bool) (a : Bool) → either q (wins q p []) a ≡ a
none-either Existential p a = refl
none-either Universal p a = refl

wins-single : (q : Quantifier) (p : ℕ → Bool) (v : ℕ) → wins q p (v ∷ []) ≡ p v
wins-single q p v = wins_cons q p v [] ∙ sym (either-none q p (p v))

wins_push : (q : Quantifier) (p : ℕ → Bool) (vs : List ℕ) (v : ℕ) → wins q p (vs ++ (v ∷ [])) ≡ either q (wins q p vs) (p v)
wins_push q p [] v = wins-single q p v ∙ sym (none-either q p (p v))
wins_push q p (w ∷ vs) v =
    wins_cons q p w (vs ++ (v ∷ [])) ∙ ap (either q (p w)) (wins_push q p vs v)
    ∙ sym (either_assoc q (p w) (wins q p vs) (p v)) ∙ ap (λ z. either q z (p v)) (sym (wins_cons q p w vs))

-- The values below a, and those from a on.
wins_split : (q : Quantifier) (p : ℕ → Bool) (a b : ℕ) → wins q p (below (a + b)) ≡ either q (wins q p (below a)) (wins q (λ v. p (a + v)) (below b))
wins_split q p a zero = ap (λ z. wins q p (below z)) (add-zero a) ∙ either-none q (λ v. p (a + v)) (wins q p (below a))
wins_split q p a (suc b) =
    ap (λ z. wins q p (below z)) (add-suc a b) ∙ wins_push q p (below (a + b)) (a + b)
    ∙ ap (λ z. either q z (p (a + b))) (wins_split q p a b)
    ∙ either_assoc q (wins q p (below a)) (wins q (λ v. p (a + v)) (below b)) (p (a + b))
    ∙ ap (either q (wins q p (below a))) (sym (wins_push q (λ v. p (a + v)) (below b) b))

wins-same : (q : Quantifier) (p r : ℕ → Bool) (vs : List ℕ) → ((v : ℕ) → Mem v vs → p v ≡ r v) → wins q p vs ≡ wins q r vs
wins-same Existential p r [] h = refl
wins-same Universal p r [] h = refl
wins-same Existential p r (v ∷ vs) h = ap₂ ◌||◌ (h v here) (wins-same Existential p r vs (λ w m. h w (there m)))
wins-same Universal p r (v ∷ vs) h = ap₂ ◌&&◌ (h v here) (wins-same Universal p r vs (λ w m. h w (there m)))

-- Variables under one quantifier, one after another, before what P says of the masks.
nest : Quantifier → List ℕ → (ℕ → ℕ → Bool) → ℕ → ℕ → Bool
nest q [] P t f = P t f
nest q (x ∷ xs) P t f = either q (nest q xs P t (bit_or f (2 ^ (x - 1)))) (nest q xs P (bit_or t (2 ^ (x - 1))) f)

nest_plain : (cs : List Clause) (q : Quantifier) (xs : List ℕ) (ps : List BoundVariable) (t f : ℕ) → nest q xs (plain cs ps) t f ≡ plain cs (bind_before q xs ps) t f
unfolding nest
nest_plain cs q [] ps t f = refl
nest_plain cs q (x ∷ xs) ps t f = ap₂ (either q) (nest_plain cs q xs ps t (bit_or f (2 ^ (x - 1)))) (nest_plain cs q xs ps (bit_or t (2 ^ (x - 1))) f)

-- The values of a block are its variables one after another.
values_nest : (q : Quantifier) (xs : List ℕ) (P : ℕ → ℕ → Bool) (t f : ℕ) → wins q (λ v. P (bit_or t (made_true xs v)) (bit_or f (made_false xs v))) (below (2 ^ length xs)) ≡ nest q xs P t f
unfolding nest
values_nest q [] P t f = wins-single q (λ v. P (bit_or t 0) (bit_or f 0)) 0 ∙ ap₂ P (or_zero_r t) (or_zero_r f)
values_nest q (x ∷ xs) P t f =
    let n = 2 ^ length xs in
    let y = 2 ^ (x - 1) in
    let double : 2 ^ suc (length xs) ≡ n + n = omega (arith, pow-suc 2 (length xs)) in
    let p : ℕ → Bool = λ v. P (bit_or t (made_true (x ∷ xs) v)) (bit_or f (made_false (x ∷ xs) v)) in
    let left : wins q p (below n) ≡ nest q xs P t (bit_or f y) =
    wins-same q p (λ v. P (bit_or t (made_true xs v)) (bit_or (bit_or f y) (made_false xs v))) (below n)
    (λ v m. let h = below_mem n v m in ap₂ P (ap (bit_or t) (true_low x xs v h)) (ap (bit_or f) (false_low x xs v h) ∙ sym (or_assoc f y (made_false xs v))))
    ∙ values_nest q xs P t (bit_or f y) in
    let right : wins q (λ v. p (n + v)) (below n) ≡ nest q xs P (bit_or t y) f =
    wins-same q (λ v. p (n + v)) (λ v. P (bit_or (bit_or t y) (made_true xs v)) (bit_or f (made_false xs v))) (below n)
    (λ v m. let h = below_mem n v m in ap₂ P (ap (bit_or t) (true_high x xs v h) ∙ sym (or_assoc t y (made_true xs v))) (ap (bit_or f) (false_high x xs v h)))
    ∙ values_nest q xs P (bit_or t y) f in
    ap (λ z. wins q p (below z)) double ∙ wins_split q p n n ∙ ap₂ (either q) left right

pub masks_plain : MasksPlain
masks_plain cs [] t f = rest_empty cs t f
masks_plain cs (b ∷ bs) t f =
    let q = b.quantifier in let xs = b.variables in
    ap (λ g. wins q g (below (2 ^ length xs)))
    (fun_ext (λ v. ap (won cs bs) (rest-rest cs t f (made_true xs v) (made_false xs v) (whole cs)) ∙ masks_plain cs bs (bit_or t (made_true xs v)) (bit_or f (made_false xs v))))
    ∙ values_nest q xs (plain cs (single bs)) t f ∙ nest_plain cs q xs (single bs) t f

pub decided_plain : DecidedPlain
decided_plain cs bs vs =
    ap (won cs (drop (length vs) bs)) (joint_rest cs bs vs (whole cs) (whole_small cs))
    ∙ masks_plain cs (drop (length vs) bs) (true_after bs vs) (false_after bs vs)

pub formulas_plain : FormulasPlain
formulas_plain f =
    ap (won f.matrix f.prefix) (sym (rest-whole f.matrix)) ∙ masks_plain f.matrix f.prefix 0 0
