-- The fault that a check finds.
use Rattle.std.specs.Prelude.{ℕ, ◌+◌, Bool, cond, List, [], ◌∷◌, Some, None, Option}
use Rattle.faults.specs.declared.cause.Cause.TheVariants.{RootUncovered, EntryUnsupported}
use Rattle.faults.specs.declared.fault.Fault.{Fault}
use Rattle.truth.specs.Syntax.{Qbf}
use Rattle.truth.specs.Truth.{root_of}
use Rattle.entries.specs.declared.entry.Entry.{Entry}
use Rattle.certificate.specs.Accepting.{reached, supported}

-- The first of some entries that fails a test, by its line; they stand one to a line, the first in this one.
abbrev pub first_failing : (Entry → Bool) → List Entry → ℕ → Option Fault
first_failing p [] line = None
first_failing p (e ∷ es) line = cond (p e) (first_failing p es (line + 1)) (Some (record { cause = EntryUnsupported; line = line }))

-- An uncovered root, and else the first entry that is not supported. Entries begin in line 4 of a certificate.
abbrev pub fault_in : Qbf → Bool → List Entry → Option Fault
fault_in f v es =
    cond (reached v es f.prefix 1 (root_of f v)) (first_failing (supported v f es) es 4) (Some (record { cause = RootUncovered; line = 0 }))
