-- Every refusal of the library: the layer and the number of each cause, and the word for each layer.
use Rattle.std.specs.Prelude.{ℕ, List, codes}
use Rattle.faults.specs.declared.layer.Layer.{Layer}
use Rattle.faults.specs.declared.layer.Layer.TheVariants.{Formula, Certificate, Check, Session, Play, Program}
use Rattle.faults.specs.declared.cause.Cause.{Cause}
use Rattle.faults.specs.declared.cause.Cause.TheVariants.{FormulaForm, OverLimit, BadVariable, BadAlternation, UnboundVariable, ClauseCount, CertificateForm, OtherFormula, BadEntry, TableFull, RootUncovered, EntryUnsupported, BadPosition, StoreFull, RootUndecided, BufferShort, BadLevel, BadValue, InputTooLong}

abbrev pub layer_of : Cause → Layer
layer_of FormulaForm = Formula
layer_of OverLimit = Formula
layer_of BadVariable = Formula
layer_of BadAlternation = Formula
layer_of UnboundVariable = Formula
layer_of ClauseCount = Formula
layer_of CertificateForm = Certificate
layer_of OtherFormula = Certificate
layer_of BadEntry = Certificate
layer_of TableFull = Certificate
layer_of RootUncovered = Check
layer_of EntryUnsupported = Check
layer_of BadPosition = Session
layer_of (StoreFull level side) = Session
layer_of RootUndecided = Session
layer_of (BufferShort needed) = Session
layer_of BadLevel = Session
layer_of BadValue = Play
layer_of InputTooLong = Program

abbrev pub number_of : Cause → ℕ
number_of FormulaForm = 1
number_of OverLimit = 2
number_of BadVariable = 3
number_of BadAlternation = 4
number_of UnboundVariable = 5
number_of ClauseCount = 6
number_of CertificateForm = 10
number_of OtherFormula = 11
number_of BadEntry = 12
number_of TableFull = 13
number_of RootUncovered = 20
number_of EntryUnsupported = 21
number_of BadPosition = 30
number_of (StoreFull level side) = 31
number_of RootUndecided = 32
number_of (BufferShort needed) = 33
number_of BadLevel = 34
number_of BadValue = 40
number_of InputTooLong = 50

abbrev pub layer_name : Layer → List ℕ
layer_name Formula = codes "formula"
layer_name Certificate = codes "certificate"
layer_name Check = codes "check"
layer_name Session = codes "session"
layer_name Play = codes "play"
layer_name Program = codes "program"
