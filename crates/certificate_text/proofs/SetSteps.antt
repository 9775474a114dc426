-- The steps of a loop that gathers the clauses of a set field, and what it has then.
use Rattle.std.proofs.Common.{◌≡◌, ℕ, suc, ◌+◌, ◌-◌, ◌*◌, ◌%◌, ◌^◌, ◌<◌, ◌≤◌, ◌&&◌, ltb, leb, List, [], ◌∷◌, Some, None, Option, sym, refl, ap, ◌∙◌, inl, inr, add_assoc, pow-suc, zero-add, add-zero, add-one, cond, length, get_or, drop, drop-cons, arith}
use native.Mathlib.Nat.{pow-le-pow_right}
use Rattle.std.specs.Option.{option_map}
use Rattle.std.proofs.lemmas.Bool.{cases_Bool}
use Rattle.std.proofs.lemmas.List.{drop_all}
use Rattle.text.specs.Numeral.{numeral}
use Rattle.text.specs.Taken.{and_then}
use Rattle.truth.specs.Limits.{max_clauses}
use Rattle.certificate_text.specs.SetField.{numerals, ascending, set_of, set_up_to}
use Rattle.certificate_text.specs.Gathering.{nothing, further, gathered, set_from}

pub twice : (c : ℕ) → 1 ≤ c → 2 ^ c ≡ 2 * 2 ^ (c - 1)
twice c h = let e : c ≡ suc (c - 1) = omega arith in ap (λ k. 2 ^ k) e ∙ omega (arith, pow-suc 2 (c - 1))

-- A clause above the last keeps the set below the next power.
pub set_more : (s last c : ℕ) → s < 2 ^ last → last < c → s + 2 ^ (c - 1) < 2 ^ c
set_more s last c h l =
    let q : last ≤ c - 1 = omega arith in
    let p : 2 ^ last ≤ 2 ^ (c - 1) = pow-le-pow_right (omega arith) q in
    omega (arith, twice c (omega arith))

pub set-fits : (s last c : ℕ) → s < 2 ^ last → last < c → c ≤ max_clauses → s + 2 ^ (c - 1) < 2 ^ 128
set-fits s last c h l k =
    let p : 2 ^ c ≤ 2 ^ 128 = pow-le-pow_right (omega arith) k in
    omega (arith, set_more s last c h l)

pub shifted : (c : ℕ) → 1 ≤ c → c ≤ max_clauses → (1 * 2 ^ (c - 1)) % 2 ^ 128 ≡ 2 ^ (c - 1)
shifted c h k =
    let p : 2 ^ c ≤ 2 ^ 128 = pow-le-pow_right (omega arith) k in
    omega (arith, twice c h)

-- The clauses gathered are the set, where all are in range and order.
gathered_none : (highest : ℕ) (cs : List ℕ) → gathered highest None cs ≡ None
gathered_none highest [] = refl
gathered_none highest (c ∷ cs) = gathered_none highest cs

gathered_some : (highest s last : ℕ) (cs : List ℕ) → set_from (gathered highest (Some (s, last)) cs) ≡ cond (ascending highest last cs) (Some (s + set_of cs)) None
gathered_some highest s last [] = rw (add-zero s)
gathered_some highest s last (c ∷ cs) =
    elim (cases_Bool (ltb last c && leb c highest)) [
      | inl t ↦ rw t (gathered_some highest (s + 2 ^ (c - 1)) c cs ∙ rw (add_assoc s (2 ^ (c - 1)) (set_of cs)))
      | inr t ↦ rw (t, gathered_none highest cs)
    ]

pub set_gathered : (highest : ℕ) (cs : List ℕ) → set_from (gathered highest (Some nothing) cs) ≡ set_up_to highest cs
set_gathered highest cs = gathered_some highest 0 0 cs ∙ rw (zero-add (set_of cs))

pub gather_start : (highest : ℕ) (g : ℕ × ℕ) (o : Option (List ℕ)) → g ≡ nothing → option_map (λ cs. set_from (gathered highest (Some g) cs)) o ≡ option_map (set_up_to highest) o
gather_start highest g None e = refl
gather_start highest g (Some cs) e = rw e (ap Some (set_gathered highest cs))

-- One number more, of the pieces from the n-th on.
module _ (highest : ℕ) (g : Option (ℕ × ℕ)) (ws : List (List ℕ)) (n : ℕ) (w : List ℕ) (x : Option (Option ℕ)) (within : n < length ws) (item : w ≡ get_or ws n w)
    (left : option_map (λ cs. set_from (gathered highest g cs)) (numerals (drop n ws)) ≡ x) where
  split : drop n ws ≡ w ∷ drop (n + 1) ws
  split = drop-cons ws n w within ∙ rw (← item, add-one)

  pub gather_more : (c m : ℕ) → numeral w ≡ Some c → m ≡ n + 1 → option_map (λ cs. set_from (gathered highest (and_then g (λ a. further highest a c)) cs)) (numerals (drop m ws)) ≡ x
  gather_more c m e next = rw next (sym step ∙ left)
    where
      step : option_map (λ cs. set_from (gathered highest g cs)) (numerals (drop n ws)) ≡ option_map (λ cs. set_from (gathered highest (and_then g (λ a. further highest a c)) cs)) (numerals (drop (n + 1) ws))
      step = rw (split, e) (elim (numerals (drop (n + 1) ws)) as (λ o. option_map (λ cs. set_from (gathered highest g cs)) (and_then o (λ ns. Some (c ∷ ns))) ≡ option_map (λ cs. set_from (gathered highest (and_then g (λ a. further highest a c)) cs)) o) [ None ↦ refl | Some ns ↦ refl ])

  pub gather_refused : numeral w ≡ None → None ≡ x
  gather_refused e = rw (split, e) at left

pub gather_all : (highest : ℕ) (g : Option (ℕ × ℕ)) (ws : List (List ℕ)) (n : ℕ) (x : Option (Option ℕ)) → n ≡ length ws
    → option_map (λ cs. set_from (gathered highest g cs)) (numerals (drop n ws)) ≡ x → Some (set_from g) ≡ x
gather_all highest g ws n x e left = rw (e, drop_all (length ws) ws (omega arith)) at left
