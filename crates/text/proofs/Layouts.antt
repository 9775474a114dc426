-- The splitting of specs/Rows gives the lines and fields of specs/Layout, and no others.
use Rattle.std.proofs.Common.{◌≡◌, ℕ, zero, suc, ◌-◌, ◌<◌, Bool, true, false, cond, List, [], ◌∷◌, ◌++◌, length, get_or, replicate, Some, None, refl, ap, ◌∙◌, inl, inr, arith}
use Rattle.std.proofs.lemmas.List.{length-append, get_or_append_left, get_or-append_right}
use Rattle.std.proofs.ByRecursion.{All-get_or}
use Rattle.std.proofs.lemmas.Bool.{cases_eq, eq-eqb, ne_eqb, eqb-false, or_from, or_parts}
use Rattle.text.specs.Rows.{rows, onto, lines_of, kept, words, padded, fields_of}
use Rattle.text.specs.Layout.{Without, Lines, Field, Spaced}
use Rattle.text.specs.Layout.Lines.{none, last, more}
use Rattle.text.specs.Layout.Spaced.{one, more as spaced}
use Rattle.text.proofs.Cuts.{rows_whole}

rows_none : (mark : ℕ) (l : List ℕ) → 0 < length l → Without mark l → rows mark l ≡ l ∷ []
rows_none mark l some w = rows_whole mark l some (λ k h. All-get_or (λ x. x ≡ mark → ⊥) l k 0 h w)

rows_more : (mark : ℕ) (l text : List ℕ) → Without mark l → rows mark (l ++ mark ∷ text) ≡ l ∷ rows mark text
rows_more mark [] text w = rw (eq-eqb mark mark refl)
rows_more mark (b ∷ l) text w = rw (ne_eqb b mark w.0) (ap (onto b) (rows_more mark l text w.1))

-- Lines.

lines_onto : {text : List ℕ} {ls : List (List ℕ)} (b : ℕ) → (b ≡ 10 → ⊥) → Lines text ls → Lines (b ∷ text) (onto b ls)
lines_onto b n none = last (omega arith) (n, tt)
lines_onto b n (last some w) = last (omega arith) (n, w)
lines_onto b n (more w r) = more (n, w) r

pub lines_made : (text : List ℕ) → Lines text (lines_of text)
lines_made [] = none
lines_made (b ∷ bs) =
    elim (cases_eq b 10) [
      | inl e ↦ rw e (more {l = []} tt (lines_made bs))
      | inr n ↦ rw (ne_eqb b 10 n) (lines_onto b n (lines_made bs))
    ]

pub lines_unique : {text : List ℕ} {ls : List (List ℕ)} → Lines text ls → lines_of text ≡ ls
lines_unique none = refl
lines_unique (last {l} some w) = rows_none 10 l some w
lines_unique (more {l} {text} w r) = rows_more 10 l text w ∙ ap (λ ls. l ∷ ls) (lines_unique r)

-- The first and the last byte of a line.

abbrev last_of : List ℕ → ℕ
last_of bs = get_or bs (length bs - 1) 0

last_behind : (xs ys : List ℕ) → 0 < length ys → last_of (xs ++ ys) ≡ last_of ys
last_behind xs ys some =
    let at : length (xs ++ ys) - 1 - length xs ≡ length ys - 1 = rw length-append (omega arith) in
    get_or-append_right xs ys (length xs) (length (xs ++ ys) - 1) 0 refl (rw length-append (omega arith)) ∙ ap (λ i. get_or ys i 0) at

field_at : (f : List ℕ) (i : ℕ) → i < length f → Field f → get_or f i 0 ≡ 32 → ⊥
field_at f i h d = All-get_or (λ x. x ≡ 32 → ⊥) f i 0 h d.1

spaced-some : {fs : List (List ℕ)} {line : List ℕ} → Spaced fs line → 0 < length line
spaced-some (one d) = d.0
spaced-some (spaced k d s) = let some = d.0 in rw length-append (omega arith)

spaced_first : {fs : List (List ℕ)} {line : List ℕ} → Spaced fs line → get_or line 0 0 ≡ 32 → ⊥
spaced_first (one {f} d) = field_at f 0 d.0 d
spaced_first (spaced {f} {line} k d s) = rw (get_or_append_left f (replicate (suc k) 32 ++ line) 0 0 d.0) (field_at f 0 d.0 d)

spaced_last : {fs : List (List ℕ)} {line : List ℕ} → Spaced fs line → last_of line ≡ 32 → ⊥
spaced_last (one {f} d) = let some = d.0 in field_at f (length f - 1) (omega arith) d
spaced_last (spaced {f} {line} k d s) =
    let some = spaced-some s in
    let e = last_behind f (replicate (suc k) 32 ++ line) (rw length-append (omega arith)) ∙ last_behind (replicate (suc k) 32) line some in
    rw e (spaced_last s)

-- Fields.

kept_field : (f : List ℕ) (rs : List (List ℕ)) → 0 < length f → kept (f ∷ rs) ≡ f ∷ kept rs
kept_field [] rs some = absurd (omega arith)
kept_field (b ∷ f) rs some = refl

words_spaces : (k : ℕ) (line : List ℕ) → words (replicate k 32 ++ line) ≡ words line
words_spaces zero line = refl
words_spaces (suc k) line = words_spaces k line

words_unique : {fs : List (List ℕ)} {line : List ℕ} → Spaced fs line → words line ≡ fs
words_unique (one {f} d) = ap kept (rows_none 32 f d.0 d.1) ∙ kept_field f [] d.0
words_unique (spaced {f} {line} k d s) =
    ap kept (rows_more 32 f (replicate k 32 ++ line) d.1) ∙ kept_field f (rows 32 (replicate k 32 ++ line)) d.0
    ∙ ap (λ fs. f ∷ fs) (words_spaces k line ∙ words_unique s)

pub fields_unique : {fs : List (List ℕ)} {line : List ℕ} → Spaced fs line → fields_of line ≡ Some fs
fields_unique {fs} {line} s =
    rw (or_from _ _ (ne_eqb (get_or line 0 0) 32 (spaced_first s)) (ne_eqb (last_of line) 32 (spaced_last s))) (ap Some (words_unique s))

spaced-onto : {fs : List (List ℕ)} {line : List ℕ} (b : ℕ) → (b ≡ 32 → ⊥) → Spaced fs line → Spaced (onto b fs) (b ∷ line)
spaced-onto b n (one d) = one (omega arith, (n, d.1))
spaced-onto b n (spaced k d s) = spaced k (omega arith, (n, d.1)) s

words-onto : (b c : ℕ) (bs : List ℕ) → (b ≡ 32 → ⊥) → (c ≡ 32 → ⊥) → words (b ∷ c ∷ bs) ≡ onto b (words (c ∷ bs))
words-onto b c bs n m = rw (ne_eqb b 32 n, ne_eqb c 32 m) (both (rows 32 bs))
  where
    both : (rs : List (List ℕ)) → kept (onto b (onto c rs)) ≡ onto b (kept (onto c rs))
    both [] = refl
    both (r ∷ rs) = refl

space_behind : (k : ℕ) (bs : List ℕ) → replicate k 32 ++ 32 ∷ bs ≡ replicate (suc k) 32 ++ bs
space_behind zero bs = refl
space_behind (suc k) bs = ap (λ t. 32 ∷ t) (space_behind k bs)

-- What is left of a line, from a byte of a field on, and from the spaces behind a field f on.
mutual
  word_made : (bs : List ℕ) (b : ℕ) → (b ≡ 32 → ⊥) → (last_of (b ∷ bs) ≡ 32 → ⊥) → Spaced (words (b ∷ bs)) (b ∷ bs)
  word_made [] b n end = rw (ne_eqb b 32 n) (one {f = b ∷ []} (omega arith, (n, tt)))
  word_made (c ∷ cs) b n end =
      let end' : last_of (c ∷ cs) ≡ 32 → ⊥ = rw (last_behind (b ∷ []) (c ∷ cs) (omega arith)) at end in
      elim (cases_eq c 32) [
        | inl e ↦ rw (ne_eqb b 32 n, e) (gap_made cs (b ∷ []) 0 (omega arith, (n, tt)) (rw e at end'))
        | inr m ↦ rw (words-onto b c cs n m) (spaced-onto b n (word_made cs c m end'))
      ]

  gap_made : (bs f : List ℕ) (k : ℕ) → Field f → (last_of (32 ∷ bs) ≡ 32 → ⊥) → Spaced (f ∷ words bs) (f ++ (replicate (suc k) 32 ++ bs))
  gap_made [] f k d end = absurd (end refl)
  gap_made (c ∷ cs) f k d end =
      let end' : last_of (c ∷ cs) ≡ 32 → ⊥ = rw (last_behind (32 ∷ []) (c ∷ cs) (omega arith)) at end in
      elim (cases_eq c 32) [
        | inl e ↦ rw (e, space_behind (suc k) cs) (gap_made cs f (suc k) d (rw e at end'))
        | inr m ↦ spaced k d (word_made cs c m end')
      ]

-- A value is given, so the test failed.
some_left : {A : Type 0} (t : Bool) (x y : A) → cond t None (Some x) ≡ Some y → (t ≡ false) × (x ≡ y)
some_left true x y e = let z : ◌≡◌ {A = ℕ} 0 1 = cc in absurd (omega arith)
some_left false x y e = (refl, cc)

pub fields_made : (line f : List ℕ) (fs : List (List ℕ)) → fields_of line ≡ Some (f ∷ fs) → Spaced (f ∷ fs) line
fields_made [] f fs e = let z : ◌≡◌ {A = ℕ} 0 1 = cc in absurd (omega arith)
fields_made (b ∷ bs) f fs e =
    let t = some_left (padded (b ∷ bs)) (words (b ∷ bs)) (f ∷ fs) e in
    let p = or_parts _ _ t.0 in
    rw (← t.1) (word_made bs b (eqb-false b 32 p.0) (eqb-false (last_of (b ∷ bs)) 32 p.1))
