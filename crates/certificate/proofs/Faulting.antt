-- The first entry that is not supported, and what it says of all.
use Rattle.std.proofs.Common.{◌≡◌, ℕ, ◌+◌, ◌≤◌, Bool, true, List, [], ◌∷◌, length, drop, None, Option, sym, refl, ap, ◌∙◌, inl, inr}
use Rattle.std.proofs.lemmas.List.{at_drop_all}
use Rattle.std.proofs.lemmas.Bool.{cases_Bool, and_from, cond-true}
use Rattle.faults.specs.declared.fault.Fault.{Fault}
use Rattle.truth.specs.Syntax.{Qbf}
use Rattle.truth.specs.WellFormed.{all}
use Rattle.truth.specs.Truth.{root_of}
use Rattle.entries.specs.declared.entry.Entry.{Entry}
use Rattle.entries.specs.declared.entry.Reply.TheVariants.{None as NoReply}
use Rattle.certificate.specs.Accepting.{reached, supported, accepts}
use Rattle.certificate.specs.Faults.{first_failing, fault_in}

-- What stands past the end of a list of entries.
abbrev pub no_entry : Entry
no_entry = record { level = 0; set = 0; reply = NoReply }

-- A loop that stops at the first entry that fails a test, at index i and line n.
module _ (p : Entry → Bool) (es : List Entry) (i n : ℕ) (o : Option Fault) (same : first_failing p (drop i es) n ≡ o) where
  pub failing_end : length es ≤ i → None ≡ o
  failing_end h = sym (at_drop_all (λ xs. first_failing p xs n) es i h) ∙ same

failing_none : (p : Entry → Bool) (es : List Entry) (n : ℕ) → None ≡ first_failing p es n → all p es ≡ true
failing_none p [] n e = refl
failing_none p (x ∷ es) n e =
    elim (cases_Bool (p x)) [ inl k ↦ and_from _ _ k (failing_none p es (n + 1) (rw k at e)) | inr k ↦ let z = rw k at e in cc ]

module _ (f : Qbf) (v : Bool) (es : List Entry) (root : reached v es f.prefix 1 (root_of f v) ≡ true) where
  pub accepted_so : None ≡ first_failing (supported v f es) es 4 → (None ≡ fault_in f v es) × (accepts f v es ≡ true)
  accepted_so e = (e ∙ sym (cond-true _ (first_failing (supported v f es) es 4) _ root), and_from _ _ root (failing_none (supported v f es) es 4 e))

-- The entries that were looked at, under another name.
module _ (f : Qbf) (v : Bool) (ds es : List Entry) (same : ds ≡ es) where
  pub root_reached : (r : ℕ) → r ≡ root_of f v → true ≡ reached v ds f.prefix 1 r → reached v es f.prefix 1 (root_of f v) ≡ true
  root_reached r e h = sym (h ∙ ap (reached v ds f.prefix 1) e ∙ ap (λ z. reached v z f.prefix 1 (root_of f v)) same)
