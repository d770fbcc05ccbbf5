-- A function of an accepted module in which a copy is lent keeps every rule on its values but those on memory.
use Rattle.std.proofs.Common.{◌≡◌, ℕ, ◌<◌, List, [], length, refl, sym, ap, ◌∙◌, subst, arith, Bool, Option, Some, None, true, false}
use Rattle.std.specs.Prelude.{◌&&◌, ◌==◌, filter_map, is_some, not, slice_get, unwrap_or}
use Rattle.std.proofs.lemmas.Bool.{eqb-true}
use Rattle.std.proofs.lemmas.Option.{slice_get_within}
use Rattle.sil_verifier_trails.proofs.sil_verifier_values.Accepted.{counted, has_kinds as old_kinds, in_range, typed}
use Rattle.sil_verifier_trails.proofs.sil_verifier_values.Based.{owned_own_bases}
use Rattle.sil_verifier_trails.proofs.sil_verifier_values.Facts.{facts_so, known, told_so}
use Rattle.sil_verifier_trails.proofs.sil_verifier_values.Suited.{results_of_kinds}
use Rattle.sil_verifier_trails.proofs.sil_verifier_values.TableRows.{result_rows}
use Rattle.sil_verifier_trails.specs.sil_verifier_values.inner.Known.{IsAcceptedBody, facts_at, kind_at, type_in}
use Rattle.sil_verifier_trails.specs.sil_verifier_values.inner.Operands.{kind_by_row, kind_of_result, kind_together}
use Rattle.sil_verifier_trails.specs.borrow_scopes.Others.{other_of}
use Rattle.copy_pairing_model.specs.Copies.{IsCopy}
use Rattle.copy_pairing_model.specs.Optimised.{facts_of}
use Rattle.copy_pairing_model.specs.Removable.{IsBorrowable}
use Rattle.copy_pairing_model.specs.Rewritten.{lent}
use Rattle.instruction_table.specs.Forms.{result_kind_of, results_of}
use Rattle.instruction_table.specs.declared.op.Op.TheVariants as op
use Rattle.sil_cfg_items.specs.Parts.{inst_at, inst_in}
use Rattle.sil_verifier_trails.specs.lifetime_worklist.Lives.{lives_of}
use Rattle.sil_verifier_trails.specs.borrow_scopes.Scopes.{scopes_of}
use Rattle.sil_verifier_trails.proofs.ownership_kinds.Defined.{defined_somewhere}
use Rattle.numbered_form.specs.Numbering.{values_of}
use Rattle.ownership_kinds_chains.specs.OwnershipChains.Facts.{value_of}
use Rattle.copy_pairing_model.specs.ownership_kinds_origins.Facts.{facts_in}
use Rattle.copy_pairing_model.specs.ownership_kinds_origins.Origins.{is_trivial_or_untyped}
use Rattle.reach_engine_marks.specs.PathChecks.Entries.{marks_for, means}
use Rattle.numbered_form.specs.PointChecks.Points.{IsAt}
use Rattle.sil_verifier_trails.proofs.holder_model_typing.RunTypingLaws.Rows.Finding.{where_found}
use Rattle.sil_verifier_trails.proofs.holder_model_typing.RunTypingLaws.Rows.Shares.{given_one}
use Rattle.sil_ast.specs.declared.function.Block.{Block}
use Rattle.sil_ast.specs.declared.function.Function.{Function}
use Rattle.sil_ast.specs.declared.inst.Inst.{Inst}
use Rattle.sil_ast.specs.declared.module.Module.{Module}
use Rattle.sil_ast.specs.declared.place.PointId.{PointId}
use Rattle.sil_ast.specs.declared.place.ValueId.{ValueId}
use Rattle.sil_ast.specs.declared.type_name.TypeName.{TypeName}
use Rattle.sil_types.specs.Typing.ResultCounts.{is_count_by}
use Rattle.sil_types.specs.Typing.RowTypes.{gives, given_by, keeps_row, row_types, written}
use Rattle.sil_types.specs.Typing.Shapes.{is_nontrivial, is_object, where_it}
use Rattle.sil_verifier_trails.specs.sil_verifier_accepted.AcceptedModules.Shown.{lives_in, scopes_in}
use Rattle.sil_verifier_trails.specs.sil_verifier_accepted.AcceptedModules.Shown.IsShownIn.{life, scope, undefined}
use Rattle.sil_verifier_trails.specs.sil_verifier_accepted.AcceptedModules.Values.{IsCleanIn}
use Rattle.sil_verifier_trails.specs.sil_verifier_accepted.AcceptedModules.inner.Checked.{IsVerified}
use Rattle.sil_types_declarations.specs.TypeDefinitions.Declarations.{Declarations, declarations_of}
use Rattle.sil_types_declarations.specs.TypeDefinitions.Measures.{is_trivial}
use Rattle.sil_types_declarations.specs.declared.type_definitions.kind.Kind.TheVariants as kind
use Rattle.value_availability.specs.Accesses.{accesses_of}
use Rattle.copy_pairing_acceptance.specs.LentFunctions.inner.Laws.{LentValuesAreClean, KeepsValueRules}
use Rattle.copy_pairing_acceptance.proofs.LentFunctions.CopyScope.{scope_kept, scope_marks}
use Rattle.copy_pairing_acceptance.proofs.LentFunctions.Insts.{op_is}
use Rattle.copy_pairing_acceptance.proofs.LentFunctions.KindRules.{has_kinds}
use Rattle.copy_pairing_acceptance.proofs.LentFunctions.Kept.{IsQuiet, kept_quiet, none_quiet, quiet_kept, quiet_lent}
use Rattle.copy_pairing_acceptance.proofs.LentFunctions.Parts.{values_lent}
use Rattle.copy_pairing_acceptance.proofs.LentFunctions.Ready.{HasFacts, IsFormed, Ready}
use Rattle.copy_pairing_acceptance.proofs.LentFunctions.Tables.{accesses_lent, copy_gone, lives_same, scopes_same}

-- ---- what an accepted function gives

has_body : (f : Function) (p : PointId) (i : Inst) → inst_at f p ≡ Some i → 0 < length f.blocks
has_body f p i e = at (slice_get f.blocks p.block.0) refl e
  where
    at : (o : Option Block) → slice_get f.blocks p.block.0 ≡ o → inst_in o p.index ≡ Some i → 0 < length f.blocks
    at None is h = absurd (let wrong : None ≡ Some i = h in cc)
    at (Some b) is h = let lt : p.block.0 < length f.blocks = slice_get_within f.blocks p.block.0 b is in omega arith

module _ (m : Module) (n : ℕ) (f : Function) (a : IsAcceptedBody m n f) where
  abbrev d : Declarations
  d = declarations_of m

  formed : IsFormed f
  formed = record {
    counted = counted m n f a;
    inside = λ q i e. ((typed m n f a).inside q i e).0;
    ends = λ b i e. ((typed m n f a).ends b i e).1;
    parts = λ b k i at. ((typed m n f a).insts b k i at).parts;
    one_result = λ b k i at e.
        eqb-true (length i.results) 1
        (ap (λ o. is_count_by (results_of o) (row_types d i) (length i.results)) (sym e) ∙ ((typed m n f a).insts b k i at).results);
    defined = λ w lt. defined_somewhere w f (counted m n f a) lt;
  }

  has_facts : HasFacts d f
  has_facts = record {
    kinds = old_kinds m n f a;
    ranged = in_range m n f a;
    known = λ w lt. (facts_at d f w, told_so m n f a w lt ∙ ap (λ x. Some x) (sym (facts_so m n f a w lt)), known m n f a w lt);
  }

  -- a copy is Owned, since its type isn't trivial
  module _ (p : PointId) (c v : ValueId) (copy : IsCopy f p c v) where
    abbrev i : Inst
    i = copy.inst

    first_result : slice_get i.results 0 ≡ Some c
    first_result = ap (λ (rs : List ValueId). slice_get rs 0) copy.copies.result

    at_point : IsAt f p.block.0 p.index i
    at_point = ((typed m n f a).inside p i copy.stands).1

    is_copy : i.op ≡ op.CopyValue
    is_copy = op_is op.CopyValue i copy.copies.copies

    keeps : keeps_row d i ≡ true
    keeps = first_of_four (keeps_row d i) _ _ _ ((typed m n f a).insts p.block.0 p.index i at_point).operands
      where
        first_of_four : (w x y z : Bool) → (w && x && y && z) ≡ true → w ≡ true
        first_of_four true x y z e = refl
        first_of_four false x y z e = e

    given : given_by i.op d i ≡ gives (where_it (is_nontrivial d) (written 0 i))
    given = ap (λ o. given_by o d i) is_copy

    -- the type that is written, which isn't trivial
    type_there : (u : TypeName) × (where_it (is_nontrivial d) (written 0 i) ≡ Some u)
    type_there = given_one (where_it (is_nontrivial d) (written 0 i)) (sym (ap (λ o. is_some o) given) ∙ keeps)

    abbrev u : TypeName
    u = type_there.0

    not_trivial : is_trivial d u ≡ false
    not_trivial = of_not (is_object u) (is_trivial d u) (where_found (is_nontrivial d) (written 0 i) u type_there.1).1
      where
        of_not : (x y : Bool) → (x && not y) ≡ true → y ≡ false
        of_not x false e = refl
        of_not true true e = absurd (let wrong : false ≡ true = e in cc)
        of_not false true e = absurd (let wrong : false ≡ true = e in cc)

    type_of_copy : type_in d f c ≡ Some u
    type_of_copy =
        (result_rows m n f a p.block.0 p.index 0 i c at_point first_result).typed
        ∙ ap (λ o. slice_get (unwrap_or o []) 0) (given ∙ ap gives type_there.1)

    copy_kind : kind_at d f c ≡ kind.Owned
    copy_kind =
        results_of_kinds m n f a p.block.0 p.index 0 i c at_point first_result
        ∙ ap (λ t. kind_of_result d f i (is_trivial_or_untyped d t)) type_of_copy
        ∙ ap (λ b. kind_of_result d f i b) not_trivial
        ∙ ap (λ o. kind_by_row (result_kind_of o) (kind_together d f i)) is_copy

    ready : IsBorrowable (facts_in d f) f c v → Ready d f p c v
    ready lends = record { formed = formed; facts = has_facts; copy = copy; owned = owned_own_bases m n f a c copy_kind; lends = lends }

-- ---- what no walk breaks on an accepted function

module _ (d : Declarations) (f : Function) (clean : IsCleanIn d f) (s : ℕ) where
  accesses_quiet : IsQuiet f (marks_for s (accesses_of f))
  accesses_quiet rule walk point item h =
      clean (record { rule = rule; subject = value_of s; other = None; point = point; walk = walk }) (undefined refl (record { item = item; at = h }))

  lives_quiet : IsQuiet f (marks_for s (lives_in d f))
  lives_quiet rule walk point item h =
      clean (record { rule = rule; subject = value_of s; other = None; point = point; walk = walk }) (life refl (record { item = item; at = h }))

  scopes_quiet : IsQuiet f (marks_for s (scopes_in d f))
  scopes_quiet rule walk point item h =
      clean (record { rule = rule; subject = value_of s; other = other_of rule (facts_in d f) f (value_of s) item; point = point; walk = walk }) (scope item refl h)

-- ---- and on the function in which the copy is lent

module _ (d : Declarations) (f : Function) (p : PointId) (c v : ValueId) (r : Ready d f p c v) (clean : IsCleanIn d f) where
  abbrev count : ℕ
  count = length (values_of f.blocks)

  same_count : count ≡ length (values_of (lent c f).blocks)
  same_count = sym (ap length (values_lent c f))

  lent_accesses : (s : ℕ) → IsQuiet (lent c f) (marks_for s (accesses_of (lent c f)))
  lent_accesses s =
      quiet_lent c f (marks_for s (accesses_of (lent c f))) (marks_for s (accesses_of f)) (λ item. ap (λ es. filter_map (means s) es) (accesses_lent c f item))
      (accesses_quiet d f clean s)

  lives_by_count : (s : ℕ) → IsQuiet (lent c f) (marks_for s (lives_of count (facts_in d (lent c f)) (lent c f)))
  lives_by_count s = at (s == c.0) refl
    where
      at : (b : Bool) → (s == c.0) ≡ b → IsQuiet (lent c f) (marks_for s (lives_of count (facts_in d (lent c f)) (lent c f)))
      at false e =
          quiet_lent c f (marks_for s (lives_of count (facts_in d (lent c f)) (lent c f))) (marks_for s (lives_in d f)) (lives_same d f p c v r count s e)
          (lives_quiet d f clean s)
      at true e =
          subst (λ k. IsQuiet (lent c f) (marks_for k (lives_of count (facts_in d (lent c f)) (lent c f)))) (sym (eqb-true s c.0 e))
          (none_quiet (lent c f) (marks_for c.0 (lives_of count (facts_in d (lent c f)) (lent c f))) (copy_gone d f p c v r count))

  scopes_by_count : (s : ℕ) → IsQuiet (lent c f) (marks_for s (scopes_of count (facts_in d (lent c f)) (lent c f)))
  scopes_by_count s = at (s == c.0) refl
    where
      at : (b : Bool) → (s == c.0) ≡ b → IsQuiet (lent c f) (marks_for s (scopes_of count (facts_in d (lent c f)) (lent c f)))
      at false e =
          quiet_lent c f (marks_for s (scopes_of count (facts_in d (lent c f)) (lent c f))) (marks_for s (scopes_in d f)) (scopes_same d f p c v r count s e)
          (scopes_quiet d f clean s)
      at true e =
          subst (λ k. IsQuiet (lent c f) (marks_for k (scopes_of count (facts_in d (lent c f)) (lent c f)))) (sym (eqb-true s c.0 e))
          (quiet_lent c f (scope_marks d f p c v r count) (scope_marks d f p c v r count) (λ item. refl)
          (kept_quiet f (scope_marks d f p c v r count)
          (scope_kept d f p c v r count (quiet_kept f (marks_for c.0 (lives_in d f)) (lives_quiet d f clean c.0)))))

  lent_lives : (s : ℕ) → IsQuiet (lent c f) (marks_for s (lives_in d (lent c f)))
  lent_lives s = subst (λ k. IsQuiet (lent c f) (marks_for s (lives_of k (facts_in d (lent c f)) (lent c f)))) same_count (lives_by_count s)

  lent_scopes : (s : ℕ) → IsQuiet (lent c f) (marks_for s (scopes_in d (lent c f)))
  lent_scopes s = subst (λ k. IsQuiet (lent c f) (marks_for s (scopes_of k (facts_in d (lent c f)) (lent c f)))) same_count (scopes_by_count s)

  pub rules_kept : KeepsValueRules d (lent c f)
  rules_kept = record {
    available = λ s rule walk point shown. lent_accesses s rule walk point shown.item shown.at;
    kinds = has_kinds d f p c v r;
    lives = λ s rule walk point shown. lent_lives s rule walk point shown.item shown.at;
    scopes = λ s rule walk point shown. lent_scopes s rule walk point shown.item shown.at;
  }

pub lent_ready : (m : Module) (n : ℕ) (f : Function) (p : PointId) (c v : ValueId) → IsVerified m → slice_get m.functions n ≡ Some f → IsCopy f p c v
    → IsBorrowable (facts_of m f) f c v → Ready (declarations_of m) f p c v
lent_ready m n f p c v verified there copy lends =
    ready m n f (record { verified = verified; body = record { there = there; body = has_body f p copy.inst copy.stands } }) p c v copy lends

pub lent_values_clean : LentValuesAreClean
lent_values_clean m n f p c v verified there copy lends =
    rules_kept (declarations_of m) f p c v (lent_ready m n f p c v verified there copy lends)
    (λ s shown. verified.accepted.values (record { function = n; showing = s })
    (record { within = f; is_body = record { there = there; body = has_body f p copy.inst copy.stands }; shown = shown }))
