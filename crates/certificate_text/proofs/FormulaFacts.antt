-- What holds of every formula that was read.
use Rattle.std.proofs.Common.{◌≡◌, ℕ, zero, suc, ◌≤◌, true, leb, List, [], ◌∷◌, length, Some, None, Option, refl, arith}
use Rattle.std.specs.Option.{option_map, unwrap_or}
use Rattle.std.proofs.lemmas.Bool.{and_parts, leb-true}
use Rattle.truth.specs.Limits.{max_blocks, max_width}
use Rattle.truth.specs.Places.{numbered}
use Rattle.truth.specs.Syntax.{Block, Qbf}
use Rattle.truth.specs.WellFormed.{WellFormed, all, wide}
use Rattle.qbf.specs.declared.formula.Formula.{Formula}
use Rattle.qbf.specs.Held.{qbf_of}
use Rattle.qbf.proofs.Sizes.{few_clauses, few_blocks}
use Rattle.certificate_text.specs.CertificateText.{width_at}

abbrev width : List Block → ℕ → Option ℕ
width bs level = option_map (λ b. length b.variables) (numbered bs level)

-- A block that is there has a level within the count, and at most twelve variables.
width_within : (bs : List Block) (level w : ℕ) → all wide bs ≡ true → Some w ≡ width bs level → (level ≤ length bs) × (w ≤ max_width)
width_within bs zero w h e = absurd (let z : ◌≡◌ {A = ℕ} 0 1 = cc in omega arith)
width_within [] (suc i) w h e = absurd (let z : ◌≡◌ {A = ℕ} 0 1 = cc in omega arith)
width_within (b ∷ bs) (suc zero) w h e =
    let p = and_parts (leb 1 (length b.variables)) _ (and_parts (wide b) _ h).0 in
    let same : w ≡ length b.variables = cc in
    (omega arith, omega (arith, leb-true _ _ p.1))
width_within (b ∷ bs) (suc (suc i)) w h e =
    let r = width_within bs (suc i) w (and_parts (wide b) _ h).1 e in (omega (arith, r.0), r.1)

pub width_low : (f : Formula) (level w : ℕ) → Some w ≡ width (qbf_of f).prefix level → (level ≤ max_blocks) × (w ≤ max_width)
width_low f level w e =
    let r = width_within (qbf_of f).prefix level w f.widths e in
    (omega (arith, r.0, few_blocks f), r.1)

pub width_told : (f : Qbf) (level : ℕ) (o : Option ℕ) (w : ℕ) → o ≡ width f.prefix level → w ≡ unwrap_or o 0 → w ≡ width_at f level
width_told f level o w e is =
    rw (is, e) (elim (numbered f.prefix level) as (λ o. unwrap_or (option_map (λ b. length b.variables) o) 0 ≡ elim o [ None ↦ 0 | Some b ↦ length b.variables ]) [ None ↦ refl | Some b ↦ refl ])

pub width_at_low : (f : Formula) (level : ℕ) → width_at (qbf_of f) level ≤ max_width
width_at_low f level = by (numbered (qbf_of f).prefix level) refl
  where
    by : (o : Option Block) → numbered (qbf_of f).prefix level ≡ o → width_at (qbf_of f) level ≤ max_width
    by None e = rw (e, width_at) (omega arith)
    by (Some b) e = rw (e, width_at) (width_low f level (length b.variables) (rw e)).1

pub formula_formed : (f : Formula) → WellFormed (qbf_of f)
formula_formed f = record {
  few_variables = f.few;
  few_blocks = few_blocks f;
  few_clauses = few_clauses f;
  widths = f.widths;
  range = f.range;
  once = f.prefix.binds.1;
  alternates = f.alternates;
  inside = f.inside;
  closes = f.closes;
}
