-- Where the entries of each level stand.
use Rattle.std.proofs.Common.{◌≡◌, ℕ, ◌+◌, ◌-◌, ◌<◌, Bool, true, false, eqb, List, [], ◌∷◌, ◌++◌, length, get_or, take, drop, set, sym, refl, ap, ◌∙◌, subst, inl, inr, arith}
use Rattle.std.specs.List.{find}
use Rattle.std.proofs.lemmas.List.{take_more, take_all, drop_all, drop-append-le, length-take-le, get_or-set_same, get_or-set_other, take-append-drop, drop-drop}
use Rattle.std.proofs.lemmas.Bool.{cases_Bool, cases_eq, both_ways, and_left, eqb-true, ne_eqb, or_from}
use Rattle.truth.specs.Limits.{max_blocks}
use Rattle.truth.specs.Truth.{any}
use Rattle.entries.specs.declared.entry.Entry.{Entry}
use Rattle.certificate.specs.declared.index.Span.{Span}
use Rattle.certificate.specs.Accepting.{covers}
use Rattle.certificate.specs.Spans.{at_level, Within, Spanned, reaching}
use Rattle.certificate.proofs.Steps.{first_behind, first_before}

any_append : {A : Type 0} (p : A → Bool) (xs ys : List A) → any p xs ≡ false → any p ys ≡ false → any p (xs ++ ys) ≡ false
any_append p [] ys h k = k
any_append p (x ∷ xs) ys h k =
    elim (cases_Bool (p x)) [
      | inl e ↦ absurd (both_ways true (rw e at h) refl)
      | inr e ↦ rw e (any_append p xs ys (rw e at h) k)
    ]

-- Entries of which none is of a level cover nothing there.
none_cover : (v : Bool) (level s : ℕ) (es : List Entry) → any (at_level level) es ≡ false → any (covers v level s) es ≡ false
none_cover v level s [] h = refl
none_cover v level s (e ∷ es) h =
    elim (cases_Bool (at_level level e)) [
      | inl k ↦ absurd (both_ways true (rw k at h) refl)
      | inr k ↦ or_from _ _ (and_left (at_level level e) _ k) (none_cover v level s es (rw k at h))
    ]

-- One look among the entries of a level finds what a look among all finds.
pub first_within : (v : Bool) (level set : ℕ) (es : List Entry) (s : Span) → Within es (length es) level s →
    find (covers v level set) (take (s.end - s.start) (drop s.start es)) ≡ find (covers v level set) es
first_within v level set es s w =
    let p = covers v level set in
    let mid = take (s.end - s.start) (drop s.start es) in
    let behind : any p (drop s.end es) ≡ false = none_cover v level set (drop s.end es) (subst (λ z. any (at_level level) (drop s.end z) ≡ false) (take_all (length es) es (omega arith)) w.3) in
    let reach : s.start + (s.end - s.start) ≡ s.end = omega (arith, w.0) in
    let rest : drop s.end es ≡ drop (s.end - s.start) (drop s.start es) = sym (drop-drop (s.end - s.start) s.start es ∙ ap (λ n. drop n es) reach) in
    let parts : take s.start es ++ (mid ++ drop s.end es) ≡ es =
    ap (λ z. take s.start es ++ (mid ++ z)) rest ∙ ap (λ z. take s.start es ++ z) (take-append-drop (s.end - s.start) (drop s.start es)) ∙ take-append-drop s.start es in
    sym (first_before p mid (drop s.end es) behind) ∙ sym (first_behind p (take s.start es) (mid ++ drop s.end es) (none_cover v level set (take s.start es) w.2)) ∙ ap (find p) parts

-- One entry more that is not of the level.
within_other : (es : List Entry) (i level : ℕ) (s : Span) (d : Entry) → i < length es → at_level level (get_or es i d) ≡ false → Within es i level s → Within es (i + 1) level s
within_other es i level s d h e w =
    let more : drop s.end (take (i + 1) es) ≡ drop s.end (take i es) ++ (get_or es i d ∷ []) =
    ap (drop s.end) (take_more es i d h) ∙ drop-append-le s.end (take i es) (get_or es i d ∷ []) (omega (arith, length-take-le i es (omega arith), w.1)) in
    let one : any (at_level level) (get_or es i d ∷ []) ≡ false = or_from _ _ e refl in
    (w.0, omega (arith, w.1), w.2, ap (any (at_level level)) more ∙ any_append (at_level level) (drop s.end (take i es)) (get_or es i d ∷ []) w.3 one)

-- One that is: it ends them, and begins them where none was before.
within_this : (es : List Entry) (i level : ℕ) (s : Span) → i < length es → Within es i level s → Within es (i + 1) level (reaching i s)
within_this es i level s h w =
    let rest : any (at_level level) (drop (i + 1) (take (i + 1) es)) ≡ false =
    ap (any (at_level level)) (drop_all (i + 1) (take (i + 1) es) (omega (arith, length-take-le (i + 1) es (omega arith)))) in
    elim (cases_Bool (eqb s.end 0)) [
      | inl k ↦
          let none : any (at_level level) (take i es) ≡ false = subst (λ n. any (at_level level) (drop n (take i es)) ≡ false) (eqb-true s.end 0 k) w.3 in
          rw k (omega arith, omega arith, none, rest)
      | inr k ↦ rw k (omega (arith, w.0, w.1), omega arith, w.2, rest)
    ]

pub spanned_more : (es : List Entry) (i : ℕ) (spans : List Span) (d : Entry) (e : Span) → length spans ≡ max_blocks + 1 → i < length es → Spanned es i spans →
    Spanned es (i + 1) (set spans (get_or es i d).level (reaching i (get_or spans (get_or es i d).level e)))
spanned_more es i spans d e a h s level c l =
    let here = (get_or es i d).level in
    elim (cases_eq here level) [
      | inl same ↦
          rw (same, get_or-set_same spans level (reaching i (get_or spans level e)) c (omega arith)) (within_this es i level (get_or spans level e) h (s level e l))
      | inr n ↦
          rw (get_or-set_other spans here level (reaching i (get_or spans here e)) c (λ k. n (sym k))) (within_other es i level (get_or spans level c) d h (ne_eqb here level n) (s level c l))
    ]

-- An entry of a level that has no place leaves the spans as they are.
pub spanned_past : (es : List Entry) (i : ℕ) (spans : List Span) (d : Entry) → max_blocks < (get_or es i d).level → i < length es → Spanned es i spans → Spanned es (i + 1) spans
spanned_past es i spans d far h s level c l = within_other es i level (get_or spans level c) d h (ne_eqb (get_or es i d).level level (λ k. omega arith)) (s level c l)
