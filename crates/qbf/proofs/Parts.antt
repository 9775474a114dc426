-- A list that is gone through from its last element: one more of those left.
use Rattle.std.proofs.Common.{◌≡◌, List, [], ◌∷◌, ◌++◌, ap, ◌∙◌, append_assoc}

pub parted : {A : Type 0} (xs left before behind : List A) (x : A) → xs ≡ left ++ behind → left ≡ before ++ (x ∷ []) → xs ≡ before ++ (x ∷ behind)
parted xs left before behind x is last = is ∙ ap (λ ys. ys ++ behind) last ∙ append_assoc before (x ∷ []) behind
