-- Positions and their successors, by levels.
use Rattle.std.proofs.Common.{◌≡◌, ℕ, ◌+◌, ◌≤◌, Bool, true, false, eqb, List, length, take, drop, is_some, Some, None, Option, sym, ap, ◌∙◌, arith}
use Rattle.std.specs.Option.{option_map}
use Rattle.std.proofs.lemmas.List.{length-map, length-take}
use denote.Enum.Bare.{sameb}
use Rattle.truth.specs.declared.verdict.Verdict.{Verdict}
use Rattle.truth.specs.declared.verdict.Verdict.TheVariants.{True, False}
use Rattle.truth.specs.contracts.verdict.Verdict.{the_type}
use Rattle.truth.specs.Verdicts.{is_true}
use Rattle.truth.specs.Limits.{max_blocks}
use Rattle.truth.specs.Places.{numbered}
use Rattle.truth.specs.Syntax.{Qbf}
use Rattle.truth.specs.declared.literal.Quantifier.{Quantifier}
use Rattle.truth.specs.Sides.{agrees}
use Rattle.truth.specs.Truth.{rest_under}
use Rattle.qbf.specs.declared.formula.Formula.{Formula}
use Rattle.qbf.specs.Stored.{block_of}
use Rattle.qbf.specs.Held.{qbf_of}
use Rattle.entries.specs.declared.entry.Entry.{Entry}
use Rattle.certificate.specs.Accepting.{blocks_from, covers, reached, leads_on}
use Rattle.std.specs.List.{find}
use Rattle.certificate.proofs.Steps.{first_some}
use Rattle.certificate.proofs.FromLevel.{from_next, told_none, told_some, is_none_there, is_some_there}

-- The verdict on what is so is a given one just where that one agrees with it.
pub agrees_by : (made given : Verdict) (so r : Bool) → is_true made ≡ so → r ≡ sameb the_type made given → r ≡ agrees (is_true given) so
agrees_by True True so r h e = cc
agrees_by True False so r h e = rw (← h) e
agrees_by False True so r h e = cc
agrees_by False False so r h e = rw (← h) e

-- A position is covered by itself where no block is left, and else by an entry.
module _ (v : Bool) (f : Qbf) (es : List Entry) (level s : ℕ) (q : Option Quantifier) (told : q ≡ option_map (λ b. b.quantifier) (numbered f.prefix level)) where
  pub reached_past : is_some q ≡ false → agrees v (eqb s 0) ≡ reached v es (blocks_from f level) level s
  reached_past h = ap (λ z. reached v es z level s) (sym (is_none_there (λ b. b.quantifier) f level q told h))

  pub reached_within : is_some q ≡ true → (o : Option Entry) → o ≡ find (covers v level s) es → is_some o ≡ reached v es (blocks_from f level) level s
  reached_within h o k =
      let b = is_some_there (λ b. b.quantifier) f level q told h in
      ap is_some k ∙ first_some (covers v level s) es ∙ ap (λ z. reached v es z level s) (sym b.1)

module _ (v : Bool) (f : Qbf) (es : List Entry) (level s w : ℕ) where
  pub leads_nowhere : None ≡ option_map (λ b. rest_under f.matrix b w s) (numbered f.prefix level) → false ≡ leads_on v f.matrix es (blocks_from f level) level s w
  leads_nowhere e = ap (λ z. leads_on v f.matrix es z level s w) (sym (told_none (λ b. rest_under f.matrix b w s) f level e))

  pub leads_to : (rest : ℕ) → Some rest ≡ option_map (λ b. rest_under f.matrix b w s) (numbered f.prefix level) → (r : Bool) → r ≡ reached v es (blocks_from f (level + 1)) (level + 1) rest →
      r ≡ leads_on v f.matrix es (blocks_from f level) level s w
  leads_to rest e r k =
      let b = told_some (λ b. rest_under f.matrix b w s) f level rest e in
      k ∙ ap (λ z. reached v es z (level + 1) rest) (from_next f level) ∙ ap (reached v es (drop level f.prefix) (level + 1)) b.1.0 ∙ ap (λ z. leads_on v f.matrix es z level s w) (sym b.1.1)
