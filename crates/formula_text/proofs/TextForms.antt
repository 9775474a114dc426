-- The texts that are read as a formula are those of specs/Form.
use Rattle.std.proofs.Common.{◌≡◌, ℕ, ◌+◌, ◌≤◌, true, false, ◌||◌, eqb, ◌⊎◌, List, [], ◌∷◌, ◌++◌, map, length, Ok, sym, refl, ap, ◌∙◌, subst, inl, inr, append_assoc, append-nil, arith}
use Rattle.std.specs.List.{AllByRecursion}
use Rattle.std.proofs.lemmas.List.{length-append}
use Rattle.std.proofs.lemmas.Bool.{true≢false, both_ways, or_left, or_right, eq-eqb, ne_eqb, eqb-true, and_from, and_parts, or_cases}
use Rattle.text.specs.Rows.{lines_of}
use Rattle.text.specs.Layout.{Lines}
use Rattle.text.proofs.Layouts.{lines_made, lines_unique}
use Rattle.truth.specs.declared.literal.Quantifier.{Quantifier}
use Rattle.truth.specs.declared.literal.Literal.{Literal}
use Rattle.truth.specs.declared.literal.Clause.{Clause}
use Rattle.formula_text.specs.declared.counts.Counts.{Counts}
use Rattle.formula_text.specs.declared.kind.Kind.{Kind}
use Rattle.formula_text.specs.declared.kind.Kind.TheVariants.{Comment, Problem, Prefix, Other}
use Rattle.truth.specs.Limits.{max_variables, max_clauses}
use Rattle.truth.specs.Syntax.{Block, Qbf, bound_in, clause_of}
use Rattle.truth.specs.WellFormed.{WellFormed, all, ranged, existential, innermost, closed}
use Rattle.formula_text.specs.Kinds.{kind_of, is_prefix, block_next}
use Rattle.formula_text.specs.Parse.{read_header, read_block, read_clause, clause_lines, block_lines, top_lines, parse}
use Rattle.formula_text.specs.Form.{Pairwise, CommentLine, HeaderLine, BlockLine, ClauseLine, FormulaText}
use Rattle.qbf.proofs.Masks.{closed-from-elem}
use Rattle.formula_text.proofs.LiteralForms.{cond_cases}
use Rattle.formula_text.proofs.Prefixes.{Sound, sound_push, follows_in, innermost_push}
use Rattle.formula_text.proofs.LineForms.{err_ok, onward_ok, ok_left, comment_accepted, letter_kind_lem, kind_of_spaced, header_accepted, header_read, block_accepted, block_read, binds_all, clause_accepted, clause_read, clause_kind}

-- The clause lines, after the clauses cs.

abbrev made : Counts → List Block → List Clause → Qbf
made h bs cs = record { variables = h.variables; prefix = bs; matrix = cs }

clauses_accepted : {P : Type 0} (n : ℕ) (h : Counts) (bs : List Block) (cs : List Clause) (lines : List (List ℕ)) (f : Qbf) → clause_lines n h bs cs lines ≡ Ok f
    → ((literals : List (List Literal)) → Pairwise ClauseLine literals lines → all (binds_all bs) literals ≡ true
    → length (cs ++ map clause_of literals) ≡ h.clauses → made h bs (cs ++ map clause_of literals) ≡ f → P) → P
clauses_accepted n h bs cs [] f e on =
    cond_cases (eqb (length cs) h.clauses) _ _ _ e
    (λ t e. on [] tt refl (rw (append-nil cs) (eqb-true _ _ t)) (rw (append-nil cs) (cc)))
    (λ _ e. absurd (err_ok e))
clauses_accepted n h bs cs (l ∷ lines) f e on =
    ok_left (eqb (length cs) h.clauses) _ _ f e (λ _ e. onward_ok (read_clause n h bs l) _ f e (λ c r e.
    clause_accepted n h bs l c r (λ ls s b is.
    clauses_accepted (n + 1) h bs (cs ++ c ∷ []) lines f e (λ literals p a count made-is.
    let next = append_assoc cs (c ∷ []) (map clause_of literals) in
    on (ls ∷ literals) (s, p) (and_from _ _ b a) (rw (is, ← next) count) (rw (is, ← next) made-is)))))

module _ (h : Counts) (bs : List Block) (limit : h.variables ≤ max_variables) (range : all (ranged h.variables) (bound_in bs) ≡ true) where
  clauses_read : (n : ℕ) (cs : List Clause) (literals : List (List Literal)) (lines : List (List ℕ)) → Pairwise ClauseLine literals lines → all (binds_all bs) literals ≡ true
      → length (cs ++ map clause_of literals) ≡ h.clauses → clause_lines n h bs cs lines ≡ Ok (made h bs (cs ++ map clause_of literals))
  clauses_read n cs [] [] p b count = rw (append-nil cs, eq-eqb (length cs) h.clauses (ap length (sym (append-nil cs)) ∙ count))
  clauses_read n cs [] (l ∷ lines) p b count = elim p [ ]
  clauses_read n cs (ls ∷ literals) [] p b count = elim p [ ]
  clauses_read n cs (ls ∷ literals) (l ∷ lines) p b count =
      let q = and_parts (binds_all bs ls) _ b in
      let next = append_assoc cs (clause_of ls ∷ []) (map clause_of literals) in
      let more : length cs ≡ h.clauses → ⊥ = λ e. omega (arith, simp length-append at count) in
      rw (ne_eqb (length cs) h.clauses more, clause_read h bs limit range n l ls p.0 q.0, ← next)
      (clauses_read (n + 1) (cs ++ clause_of ls ∷ []) literals lines p.1 q.1 (ap length next ∙ count))

  clause_next : (literals : List (List Literal)) (lines : List (List ℕ)) → Pairwise ClauseLine literals lines → all (binds_all bs) literals ≡ true → block_next lines ≡ false
  clause_next [] [] p b = refl
  clause_next [] (l ∷ lines) p b = elim p [ ]
  clause_next (ls ∷ literals) [] p b = elim p [ ]
  clause_next (ls ∷ literals) (l ∷ lines) p b = clause_kind h bs limit range l ls p.0 (and_parts (binds_all bs ls) _ b).0

-- The block lines, after the blocks bs.

not_prefix : {A : Type 0} (k : Kind) (f : Quantifier → A) (x : A) → is_prefix k ≡ false → ◌≡◌ {A = A} (elim k [ Prefix q ↦ f q | Comment ↦ x | Problem ↦ x | Other ↦ x ]) x
not_prefix Comment f x o = refl
not_prefix Problem f x o = refl
not_prefix (Prefix q) f x o = absurd (true≢false o)
not_prefix Other f x o = refl

blocks_over : (n : ℕ) (h : Counts) (bs : List Block) (lines : List (List ℕ)) → block_next lines ≡ false → block_lines n h bs lines ≡ clause_lines n h bs [] lines
blocks_over n h bs [] o = refl
blocks_over n h bs (l ∷ lines) o = not_prefix (kind_of l) _ _ o

-- How block_lines came to f: by these blocks more, and then clause lines from the m-th on.
abbrev Ends : Counts → List Block → List (List ℕ) → Qbf → Type 0 → Type 0
Ends h bs lines f P =
    (m : ℕ) (more : List Block) (blocks clauses : List (List ℕ)) → lines ≡ blocks ++ clauses → Pairwise BlockLine more blocks
    → Sound h.variables (bs ++ more) → innermost (bs ++ more) ≡ true → clause_lines m h (bs ++ more) [] clauses ≡ Ok f → P

blocks_end : {P : Type 0} (n : ℕ) (h : Counts) (bs : List Block) (lines : List (List ℕ)) (f : Qbf) → Sound h.variables bs → (innermost bs || block_next lines) ≡ true
    → block_next lines ≡ false → block_lines n h bs lines ≡ Ok f → Ends h bs lines f P → P
blocks_end n h bs lines f s i o e on =
    on n [] [] lines refl tt (rw (append-nil bs) s) (rw (append-nil bs) (elim (or_cases _ _ i) [ inl t ↦ t | inr t ↦ absurd (both_ways _ o t) ]))
    (rw (append-nil bs) (sym (blocks_over n h bs lines o) ∙ e))

prefix_or_not : (k : Kind) → ((q : Quantifier) × (k ≡ Prefix q)) ⊎ (is_prefix k ≡ false)
prefix_or_not Comment = inr refl
prefix_or_not Problem = inr refl
prefix_or_not (Prefix q) = inl (q, refl)
prefix_or_not Other = inr refl

blocks_accepted : {P : Type 0} (n : ℕ) (h : Counts) (bs : List Block) (lines : List (List ℕ)) (f : Qbf) → Sound h.variables bs → (innermost bs || block_next lines) ≡ true
    → block_lines n h bs lines ≡ Ok f → Ends h bs lines f P → P
blocks_accepted n h bs [] f s i e on = blocks_end n h bs [] f s i refl e on
blocks_accepted n h bs (l ∷ lines) f s i e on =
    elim (prefix_or_not (kind_of l)) [
      | inr o ↦ blocks_end n h bs (l ∷ lines) f s i o e on
      | inl t ↦
          let k = t.1 in
          onward_ok (read_block n h bs t.0 (block_next lines) l) _ f (rw (k, block_lines) at e) (λ b r e.
          let a = block_accepted n h bs t.0 (block_next lines) l b k r in
          blocks_accepted (n + 1) h (bs ++ b ∷ []) lines f (sound_push _ bs b s a.1) (rw (innermost_push bs b) a.2) e (λ m more blocks clauses lined p s i e.
          let next = append_assoc bs (b ∷ []) more in
          on m (b ∷ more) (l ∷ blocks) clauses (ap (λ ls. l ∷ ls) lined) (a.0, p) (rw (← next) s) (rw (← next) i) (rw (← next) e)))
    ]

last_or_next : (bs more : List Block) (b : Block) (blocks clauses : List (List ℕ)) → innermost (bs ++ b ∷ more) ≡ true → Pairwise BlockLine more blocks
    → (existential b.quantifier || block_next (blocks ++ clauses)) ≡ true
last_or_next bs [] b [] clauses i p = or_left _ _ (sym (innermost_push bs b) ∙ i)
last_or_next bs [] b (l ∷ blocks) clauses i p = elim p [ ]
last_or_next bs (c ∷ more) b [] clauses i p = elim p [ ]
last_or_next bs (c ∷ more) b (l ∷ blocks) clauses i p = or_right _ _ (ap is_prefix (letter_kind_lem c.quantifier _ l p.0))

blocks_read : (n : ℕ) (h : Counts) (bs more : List Block) (blocks clauses : List (List ℕ)) (f : Qbf) → h.variables ≤ max_variables
    → Sound h.variables (bs ++ more) → innermost (bs ++ more) ≡ true → Pairwise BlockLine more blocks → block_next clauses ≡ false
    → ((m : ℕ) → clause_lines m h (bs ++ more) [] clauses ≡ Ok f) → block_lines n h bs (blocks ++ clauses) ≡ Ok f
blocks_read n h bs [] [] clauses f limit s i p o e = blocks_over n h bs clauses o ∙ (rw (append-nil bs) at (e n))
blocks_read n h bs [] (l ∷ blocks) clauses f limit s i p o e = elim p [ ]
blocks_read n h bs (b ∷ more) [] clauses f limit s i p o e = elim p [ ]
blocks_read n h bs (b ∷ more) (l ∷ blocks) clauses f limit s i p o e =
    let k = letter_kind_lem b.quantifier _ l p.0 in
    let r = block_read n h bs (block_next (blocks ++ clauses)) l b limit p.0 (follows_in _ bs b more s) (last_or_next bs more b blocks clauses i p.1) in
    let next = append_assoc bs (b ∷ []) more in
    rw (k, block_lines, r) (blocks_read (n + 1) h (bs ++ b ∷ []) more blocks clauses f limit (rw next s) (rw next i) p.1 o (λ m. rw next (e m)))

-- The lines up to the header.

-- How top_lines came to f: by this header, and then blocks from the m-th line on.
abbrev Starts : List (List ℕ) → Qbf → Type 0 → Type 0
Starts lines f P =
    (m : ℕ) (h : Counts) (comments : List (List ℕ)) (header : List ℕ) (rest : List (List ℕ)) → lines ≡ comments ++ (header ∷ rest) → AllByRecursion CommentLine comments
    → HeaderLine h.variables h.clauses header × (h.variables ≤ max_variables) × (h.clauses ≤ max_clauses) → block_lines m h [] rest ≡ Ok f → P

top_accepted : {P : Type 0} (n : ℕ) (lines : List (List ℕ)) (f : Qbf) → top_lines n lines ≡ Ok f → Starts lines f P → P
top_accepted n [] f e on = absurd (err_ok e)
top_accepted {P} n (l ∷ lines) f e on = by (top_accepted (n + 1) lines f) (kind_of l) refl
  where
    by : (top_lines (n + 1) lines ≡ Ok f → Starts lines f P → P) → (k : Kind) → kind_of l ≡ k → P
    by again Comment k =
        again (rw (k, top_lines) at e) (λ m h comments header rest lined p s e.
        on m h (l ∷ comments) header rest (ap (λ ls. l ∷ ls) lined) (comment_accepted l k, p) s e)
    by again Problem k =
        onward_ok (read_header n l) _ f (rw (k, top_lines) at e) (λ h r e. on (n + 1) h [] l lines refl tt (header_accepted n l h k r) e)
    by again (Prefix q) k = absurd (err_ok (rw (k, top_lines) at e))
    by again Other k = absurd (err_ok (rw (k, top_lines) at e))

top_read : (n : ℕ) (h : Counts) (comments : List (List ℕ)) (header : List ℕ) (rest : List (List ℕ)) (f : Qbf) → h.variables ≤ max_variables → h.clauses ≤ max_clauses
    → AllByRecursion CommentLine comments → HeaderLine h.variables h.clauses header → ((m : ℕ) → block_lines m h [] rest ≡ Ok f) → top_lines n (comments ++ (header ∷ rest)) ≡ Ok f
top_read n h [] header rest f v c p s e =
    let k : kind_of header ≡ Problem = kind_of_spaced s in
    rw (k, top_lines, header_read n h.variables h.clauses header v c s) (e (n + 1))
top_read n h (l ∷ comments) header rest f v c p s e =
    let k : kind_of l ≡ Comment = ap kind_of p.0.1 in
    rw (k, top_lines) (top_read (n + 1) h comments header rest f v c p.1 s e)

-- The text.

all_closed : (bs : List Block) (literals : List (List Literal)) → all (binds_all bs) literals ≡ true → all (closed (bound_in bs)) (map clause_of literals) ≡ true
all_closed bs [] b = refl
all_closed bs (ls ∷ literals) b =
    let p = and_parts (binds_all bs ls) _ b in
    and_from _ _ (closed-from-elem (bound_in bs) ls p.0) (all_closed bs literals p.1)

pub accepted_form : (text : List ℕ) (f : Qbf) → parse text ≡ Ok f → FormulaText text f
accepted_form text f e =
    top_accepted 1 (lines_of text) f e (λ m h comments header rest lined commented headed e.
    let none : Sound h.variables [] = record { few = omega arith; widths = refl; range = refl; once = refl; alternates = refl } in
    blocks_accepted m h [] rest f none refl e (λ m bs blocks clauses rest-lined prefixed sound inside e.
    clauses_accepted m h bs [] clauses f e (λ literals claused bound count is.
    rw (← is) (record {
      comments = comments;
      header = header;
      blocks = blocks;
      clauses = clauses;
      lines = subst (Lines text) (lined ∙ ap (λ ls. comments ++ (header ∷ ls)) rest-lined) (lines_made text);
      commented = commented;
      headed = rw count headed.0;
      prefixed = prefixed;
      literals = literals;
      claused = claused;
      bound = bound;
      meant = refl;
      formed = record {
        few_variables = headed.1;
        few_blocks = sound.few;
        few_clauses = rw count headed.2;
        widths = sound.widths;
        range = sound.range;
        once = sound.once;
        alternates = sound.alternates;
        inside = inside;
        closes = all_closed bs literals bound;
      };
    }))))

pub parse_formed : (text : List ℕ) (f : Qbf) → parse text ≡ Ok f → WellFormed f
parse_formed text f e = (accepted_form text f e).formed

pub form_accepted : (text : List ℕ) (f : Qbf) → FormulaText text f → parse text ≡ Ok f
form_accepted text f t =
    let w = t.formed in
    let h : Counts = record { variables = f.variables; clauses = length f.matrix } in
    let sound : Sound f.variables f.prefix = record { few = w.few_blocks; widths = w.widths; range = w.range; once = w.once; alternates = w.alternates } in
    ap (top_lines 1) (lines_unique t.lines) ∙ top_read 1 h t.comments t.header _ f w.few_variables w.few_clauses t.commented t.headed (λ m.
    blocks_read m h [] f.prefix t.blocks t.clauses f w.few_variables sound w.inside t.prefixed
    (clause_next h f.prefix w.few_variables w.range t.literals t.clauses t.claused t.bound) (λ k.
    clauses_read h f.prefix w.few_variables w.range k [] t.literals t.clauses t.claused t.bound (ap length t.meant)
    ∙ ap (λ cs. Ok (made h f.prefix cs)) t.meant))
