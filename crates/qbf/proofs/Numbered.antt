-- Elements by their number.
use Rattle.std.proofs.Common.{◌≡◌, ℕ, zero, suc, ◌-◌, ◌≤◌, ltb, List, map, length, get_or, Some, None, Option, Bor, IfSome, sym, ap, ◌∙◌, arith}
use Rattle.std.specs.Option.{option_map, is_some}
use Rattle.std.specs.List.{slice_get}
use Rattle.std.proofs.lemmas.Bool.{ltb-true, ltb-false}
use Rattle.std.proofs.lemmas.Option.{slice_get-map, slice_get-get_or, slice_get_past}
use Rattle.truth.specs.Places.{numbered}

numbered_at : {A : Type 0} (xs : List A) (n i : ℕ) → 1 ≤ n → i ≡ n - 1 → slice_get xs i ≡ numbered xs n
numbered_at xs zero i h e = absurd (omega arith)
numbered_at xs (suc k) i h e = let same : i ≡ k = omega arith in ap (slice_get xs) same

-- What a look-up at the place before a number has found, seen through f.
pub numbered_lookup : {A B : Type 0} (f : A → B) (xs : List A) (n i : ℕ) (r : Option (Bor A)) → 1 ≤ n → i ≡ n - 1 →
    is_some r ≡ ltb i (length xs) → IfSome r (λ x. x.now ≡ get_or xs i x.now) → option_map (λ x. f x.now) r ≡ numbered (map f xs) n
numbered_lookup f xs n i None h e s g =
    sym (slice_get-map f xs i ∙ ap (option_map f) (slice_get_past xs i (ltb-false i (length xs) (sym s)))) ∙ numbered_at (map f xs) n i h e
numbered_lookup f xs n i (Some x) h e s g =
    ap (λ y. Some (f y)) g ∙ sym (slice_get-map f xs i ∙ ap (option_map f) (slice_get-get_or xs i x.now (ltb-true i (length xs) (sym s)))) ∙ numbered_at (map f xs) n i h e
