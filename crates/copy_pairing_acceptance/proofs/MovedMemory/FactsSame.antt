-- Kinds and bases stay the same where a copy of an accepted function becomes a move and a destroy goes.
use Rattle.std.proofs.Common.{◌≡◌, ℕ, zero, suc, ◌<◌, List, [], ◌∷◌, ◌++◌, length, map, refl, sym, ap, ap₂, ◌∙◌, subst, arith, Bool, true, false, cond, Option, Some, None}
use Rattle.std.specs.Prelude.{◌&&◌, ◌==◌, is_some, not, unwrap_or}
use Rattle.std.specs.List.{list_all, range_with_len, slice_get}
use Rattle.std.proofs.lemmas.Bool.{and_parts, eqb-true, not-true, not_from_false, true_from_ne_false}
use Rattle.std.proofs.lemmas.List.{nil_from_length}
use Rattle.std.proofs.lemmas.Option.{none-some, slice_get_within}
use Rattle.copy_pairing_model.specs.Copies.{IsCopy, IsDestroy}
use Rattle.copy_pairing_model.specs.Rewritten.{moved, moved_block, with_op}
use Rattle.instruction_table.specs.Forms.{result_kind_of, results_of}
use Rattle.instruction_table.specs.declared.op.Op.{Op}
use Rattle.instruction_table.specs.declared.op.Op.TheVariants as op
use Rattle.sil_cfg_items.specs.Parts.{inst_at, inst_in}
use Rattle.copy_pairing_model.specs.ownership_kinds_origins.Facts.{facts_by, facts_in}
use Rattle.copy_pairing_model.specs.ownership_kinds_origins.Origins.{arg_definition, arg_definitions, definitions_of, is_trivial_or_untyped, is_zero, result_definition, result_definition_by}
use Rattle.copy_pairing_model.specs.ownership_kinds_origins.Origins.{result_definitions}
use Rattle.copy_pairing_model.specs.ownership_kinds_origins.Switched.{switch_to, switches_from}
use Rattle.numbered_form.specs.PointChecks.Points.{IsAt}
use Rattle.sil_ast.specs.declared.function.Block.{Block}
use Rattle.sil_ast.specs.declared.function.Function.{Function}
use Rattle.sil_ast.specs.declared.inst.Inst.{Inst}
use Rattle.sil_ast.specs.declared.module.Module.{Module}
use Rattle.sil_ast.specs.declared.place.PointId.{PointId}
use Rattle.sil_ast.specs.declared.place.ValueId.{ValueId}
use Rattle.sil_ast.specs.declared.type_name.TypeName.{TypeName}
use Rattle.sil_cfg.specs.Items.{point_at}
use Rattle.sil_rules.specs.declared.rule.Rule.TheVariants as rule
use Rattle.sil_types.specs.Typing.OperandTypes.{are_as_asked, are_as_written, edge_is_as_written, has_operand_types}
use Rattle.sil_types.specs.Typing.ResultCounts.{is_count_by}
use Rattle.sil_types.specs.Typing.RowTypes.{MadeTypes, given_by, gives, keeps_row, made_types, row_types, written}
use Rattle.sil_types.specs.Typing.Shapes.{is_nontrivial, is_object, where_it}
use Rattle.sil_types.specs.Typing.Typed.BreaksAt.{point}
use Rattle.sil_types.specs.Typing.Typed.BreaksAtPoint.{operand_type, result_count}
use Rattle.sil_types.specs.Typing.Typed.{at_point}
use Rattle.sil_types.specs.Typing.Values.{value_types}
use Rattle.sil_verifier_trails.specs.sil_verifier_accepted.AcceptedModules.Values.{IsCleanIn}
use Rattle.sil_verifier_trails.specs.sil_verifier_accepted.AcceptedModules.inner.Checked.{IsVerified}
use Rattle.sil_types_declarations.specs.TypeDefinitions.Declarations.{Declarations, declarations_of}
use Rattle.sil_types_declarations.specs.TypeDefinitions.Measures.{is_trivial}
use Rattle.copy_pairing_acceptance.proofs.MovedMemory.MovedAccesses.{op_is}
use Rattle.copy_pairing_acceptance.proofs.MovedMemory.TablesSame.{table_same, told_alike}

-- ---- what stands at a point

front_get : {A : Type 0} (xs ys : List A) (k : ℕ) (x : A) → slice_get xs k ≡ Some x → slice_get (xs ++ ys) k ≡ Some x
front_get [] ys k x e = absurd (none-some x e)
front_get (z ∷ xs) ys zero x e = e
front_get (z ∷ xs) ys (suc k) x e = front_get xs ys k x e

at_point_of : (f : Function) (q : PointId) (i : Inst) → inst_at f q ≡ Some i → IsAt f q.block.0 q.index i
at_point_of f q i e = at (slice_get f.blocks q.block.0) refl e
  where
    at : (o : Option Block) → slice_get f.blocks q.block.0 ≡ o → inst_in o q.index ≡ Some i → IsAt f q.block.0 q.index i
    at None is e = absurd (none-some i e)
    at (Some block) is e = record { within = block; is_block = is; is_inst = front_get block.insts (block.terminator ∷ []) q.index i e }

has_blocks : (f : Function) (q : PointId) (i : Inst) → inst_at f q ≡ Some i → 0 < length f.blocks
has_blocks f q i e = at (slice_get f.blocks q.block.0) refl e
  where
    at : (o : Option Block) → slice_get f.blocks q.block.0 ≡ o → inst_in o q.index ≡ Some i → 0 < length f.blocks
    at None is e = absurd (none-some i e)
    at (Some block) is e = let lt = slice_get_within f.blocks q.block.0 block is in omega arith

-- ---- types of a copy and of a move

record IsHolding (d : Declarations) (o : Option TypeName) : Type 0 where
  ty : TypeName
  there : o ≡ Some ty
  object : is_object ty ≡ true
  holds : is_trivial d ty ≡ false

holding : (d : Declarations) (o : Option TypeName) → is_some (gives (where_it (is_nontrivial d) o)) ≡ true → IsHolding d o
holding d None e = absurd (let no : false ≡ true = e in cc)
holding d (Some t) e = at (is_nontrivial d t) refl e
  where
    at : (b : Bool) → is_nontrivial d t ≡ b → is_some (gives (cond b (Some t) None)) ≡ true → IsHolding d (Some t)
    at false is h = absurd (let no : false ≡ true = h in cc)
    at true is h =
        let both = and_parts (is_object t) (not (is_trivial d t)) is in
        record { ty = t; there = refl; object = both.0; holds = not-true (is_trivial d t) both.1 }

given_nontrivial : (d : Declarations) (o : Option TypeName) (h : IsHolding d o) → gives (where_it (is_nontrivial d) o) ≡ Some (h.ty ∷ [])
given_nontrivial d o h =
    ap (λ x. gives (where_it (is_nontrivial d) x)) h.there ∙ ap (λ b. gives (cond b (Some h.ty) None)) (ap₂ (λ x y. x && not y) h.object h.holds)

given_object : (d : Declarations) (o : Option TypeName) (h : IsHolding d o) → gives (where_it is_object o) ≡ Some (h.ty ∷ [])
given_object d o h = ap (λ x. gives (where_it is_object x)) h.there ∙ ap (λ b. gives (cond b (Some h.ty) None)) h.object

module _ (d : Declarations) (i : Inst) (is_copy : i.op ≡ op.CopyValue) (kept : is_some (row_types d i) ≡ true) where
  abbrev moves : Inst
  moves = with_op op.MoveValue i

  type_held : IsHolding d (written 0 i)
  type_held = holding d (written 0 i) (subst (λ o. is_some (given_by o d i) ≡ true) is_copy kept)

  made_same : made_types d moves ≡ made_types d i
  made_same =
      ap (λ (o : MadeTypes). unwrap_or o []) (given_object d (written 0 i) type_held)
      ∙ sym (ap (λ (o : Op). unwrap_or (given_by o d i) []) is_copy ∙ ap (λ (o : MadeTypes). unwrap_or o []) (given_nontrivial d (written 0 i) type_held))

  definition_same : (k : ℕ) → result_definition d moves k ≡ result_definition d i k
  definition_same k =
      ap (λ ts. result_definition_by (result_kind_of op.CopyValue) i (is_trivial_or_untyped d (slice_get ts k))) made_same
      ∙ sym (ap (λ o. result_definition_by (result_kind_of o) i (is_trivial_or_untyped d (slice_get (made_types d i) k))) is_copy)

  definitions_told : result_definitions d moves ≡ result_definitions d i
  definitions_told = each (range_with_len 0 (length i.results))
    where
      each : (ks : List ℕ) → map (result_definition d moves) ks ≡ map (result_definition d i) ks
      each [] = refl
      each (k ∷ ks) = ap₂ (λ x xs. x ∷ xs) (definition_same k) (each ks)

-- ---- in an accepted module

module _ (m : Module) (n : ℕ) (f : Function) (verified : IsVerified m) (there : slice_get m.functions n ≡ Some f) where
  abbrev d : Declarations
  d = declarations_of m

  -- 201, as far as rows go
  row_kept : (block index : ℕ) (i : Inst) → IsAt f block index i → is_some (row_types d i) ≡ true
  row_kept block index i here =
      let types : List (Option TypeName) = value_types d f in
      let all : has_operand_types d types i ≡ true = true_from_ne_false (has_operand_types d types i)
      (λ wrong. verified.accepted.types.typed (at_point n block index) rule.OperandType
      (point n f block index i rule.OperandType there here (operand_type (not_from_false (has_operand_types d types i) wrong)))) in
      let edges : Bool = list_all (edge_is_as_written types) i.edges in
      let front = and_parts ((keeps_row d i && are_as_written types i.operands) && edges) (are_as_asked types i) all in
      let more = and_parts (keeps_row d i && are_as_written types i.operands) edges front.0 in
      (and_parts (keeps_row d i) (are_as_written types i.operands) more.0).0

  -- 202
  count_kept : (block index : ℕ) (i : Inst) → IsAt f block index i → is_count_by (results_of i.op) (row_types d i) (length i.results) ≡ true
  count_kept block index i here =
      true_from_ne_false (is_count_by (results_of i.op) (row_types d i) (length i.results))
      (λ wrong. verified.accepted.types.typed (at_point n block index) rule.ResultCount
      (point n f block index i rule.ResultCount there here (result_count (not_from_false (is_count_by (results_of i.op) (row_types d i) (length i.results)) wrong))))

  -- a destroy has no results
  pub destroy_makes_none : (q : PointId) (v : ValueId) (h : IsDestroy f q v) → h.inst.results ≡ []
  destroy_makes_none q v h =
      nil_from_length h.inst.results
      (eqb-true (length h.inst.results) 0
      (subst (λ o. is_count_by (results_of o) (row_types d h.inst) (length h.inst.results) ≡ true) (op_is op.DestroyValue h.inst h.destroys.destroys)
      (count_kept q.block.0 q.index h.inst (at_point_of f q h.inst h.stands))))

  -- nothing is shown in a function that has an instruction
  pub nothing_shown : (q : PointId) (i : Inst) → inst_at f q ≡ Some i → IsCleanIn d f
  nothing_shown q i e s shown =
      verified.accepted.values (record { function = n; showing = s })
      (record { within = f; is_body = record { there = there; body = has_blocks f q i e }; shown = shown })

  module _ (p : PointId) (c v : ValueId) (last : ℕ) (copy : IsCopy f p c v) (destroy : IsDestroy f (point_at p.block.0 last) v) (behind : p.index < last) where
    switch_same : (k : ℕ) → switch_to (moved p last f) k ≡ switch_to f k
    switch_same k = ap (λ xs. slice_get xs 0) (told_alike (switches_from k) (moved_block p.index last) (λ b. refl) p.block.0 f.blocks)

    definitions_same : definitions_of d (moved p last f) ≡ definitions_of d f
    definitions_same =
        table_same (result_definitions d) (arg_definitions d f) (arg_definitions d (moved p last f))
        (λ k xs. ap (λ o. map (arg_definition d (is_zero k) o) xs) (switch_same k)) f p c v last copy destroy behind
        (definitions_told d copy.inst (op_is op.CopyValue copy.inst copy.copies.copies) (row_kept p.block.0 p.index copy.inst (at_point_of f p copy.inst copy.stands)))
        (ap (λ (vs : List ValueId). map (result_definition d destroy.inst) (range_with_len 0 (length vs))) (destroy_makes_none (point_at p.block.0 last) v destroy))

    pub facts_same : facts_in d (moved p last f) ≡ facts_in d f
    facts_same = ap (λ defs v. facts_by defs v) definitions_same
