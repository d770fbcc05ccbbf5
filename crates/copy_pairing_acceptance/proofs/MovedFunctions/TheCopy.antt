-- The copy and the destroy of a typed function: what they take and make, which types, and which rows they have in the tables of values.
use Rattle.std.proofs.Common.{◌≡◌, ℕ, suc, List, [], ◌∷◌, ◌++◌, length, map, refl, sym, ap, ap₂, ◌∙◌, subst, append_assoc, Bool, true, false, cond, Option, Some, None, arith, length-append}
use Rattle.std.specs.Prelude.{◌&&◌, ◌==◌, is_some, not, replicate, unwrap_or}
use Rattle.std.specs.List.{range_with_len, slice_get}
use Rattle.std.proofs.lemmas.Bool.{and_parts, eqb-true, not-true}
use Rattle.std.proofs.lemmas.Option.{same_Some}
use Rattle.instruction_table.proofs.Numbers.{stands_at}
use Rattle.instruction_table.specs.Forms.{number_of, result_kind_of, results_of}
use Rattle.instruction_table.specs.declared.op.Op.{Op}
use Rattle.instruction_table.specs.declared.op.Op.TheVariants as op
use Rattle.instruction_table.specs.declared.op.TheConstants.{OPS}
use Rattle.sil_ast.specs.declared.function.Function.{Function}
use Rattle.sil_ast.specs.declared.inst.Inst.{Inst}
use Rattle.sil_ast.specs.declared.place.PointId.{PointId}
use Rattle.sil_ast.specs.declared.place.ValueId.{ValueId}
use Rattle.sil_ast.specs.declared.type_name.TypeName.{TypeName}
use Rattle.numbered_form.specs.PointChecks.Points.{IsAt}
use Rattle.sil_types_declarations.specs.TypeDefinitions.Declarations.{Declarations}
use Rattle.sil_types_declarations.specs.TypeDefinitions.Measures.{is_trivial}
use Rattle.sil_types.specs.Typing.ResultCounts.{is_count_by}
use Rattle.sil_types.specs.Typing.RowTypes.{MadeTypes, given_by, gives, made_types, row_types, written}
use Rattle.sil_types.specs.Typing.Shapes.{is_nontrivial, is_object, where_it}
use Rattle.ownership_kinds_chains.specs.declared.ownership_chains.definition.Origin.TheVariants as origin
use Rattle.copy_pairing_model.specs.ownership_kinds_origins.Origins.{defined, is_trivial_or_untyped, result_definition, result_definition_by, result_definitions}
use Rattle.copy_pairing_model.specs.ownership_kinds_origins.Renamings.{renamed, renames, result_renamings}
use Rattle.numbered_form.specs.ValueTables.Borrows.{borrow_by, result_borrows}
use Rattle.numbered_form.specs.ValueTables.FirstValue.{value_of}
use Rattle.copy_pairing_model.specs.Copies.{is_op}
use Rattle.copy_pairing_acceptance.proofs.MovedFunctions.Lists.{at_seam}
use Rattle.copy_pairing_acceptance.proofs.MovedFunctions.Split.{IsSplit, move_of}

-- ---- ops

same_op : (a b : Op) → number_of a ≡ number_of b → a ≡ b
same_op a b e = same_Some a b (sym (stands_at a) ∙ ap (slice_get OPS) e ∙ stands_at b)

pub op_is : (o : Op) (i : Inst) → is_op o i ≡ true → i.op ≡ o
op_is o i e = same_op i.op o (eqb-true (number_of i.op) (number_of o) e)

-- ---- types

pub record IsNontrivialWritten (d : Declarations) (o : Option TypeName) : Type 0 where
  pub ty : TypeName
  pub there : o ≡ Some ty
  pub object : is_object ty ≡ true
  pub nontrivial : is_trivial d ty ≡ false

nontrivial_written : (d : Declarations) (o : Option TypeName) → is_some (gives (where_it (is_nontrivial d) o)) ≡ true → IsNontrivialWritten d o
nontrivial_written d None e = absurd (let no : false ≡ true = e in cc)
nontrivial_written d (Some t) e = at (is_nontrivial d t) refl e
  where
    at : (b : Bool) → is_nontrivial d t ≡ b → is_some (gives (cond b (Some t) None)) ≡ true → IsNontrivialWritten d (Some t)
    at false is h = absurd (let no : false ≡ true = h in cc)
    at true is h =
        let both = and_parts (is_object t) (not (is_trivial d t)) is in
        record { ty = t; there = refl; object = both.0; nontrivial = not-true (is_trivial d t) both.1 }

given_nontrivial : (d : Declarations) (o : Option TypeName) (h : IsNontrivialWritten d o) → gives (where_it (is_nontrivial d) o) ≡ Some (h.ty ∷ [])
given_nontrivial d o h =
    ap (λ x. gives (where_it (is_nontrivial d) x)) h.there
    ∙ ap (λ b. gives (cond b (Some h.ty) None)) (ap₂ (λ x y. x && not y) h.object h.nontrivial)

given_object : (d : Declarations) (o : Option TypeName) (h : IsNontrivialWritten d o) → gives (where_it is_object o) ≡ Some (h.ty ∷ [])
given_object d o h = ap (λ x. gives (where_it is_object x)) h.there ∙ ap (λ b. gives (cond b (Some h.ty) None)) h.object

-- ---- what the table of instructions says

no_results_left : {A : Type 0} (xs : List A) → (length xs == 0) ≡ true → xs ≡ []
no_results_left [] e = refl
no_results_left (x ∷ xs) e = let none : suc (length xs) ≡ 0 = eqb-true (suc (length xs)) 0 e in absurd (omega arith)

module _ {f : Function} {p : PointId} {last : ℕ} {c v : ValueId} (s : IsSplit f p last c v) where
  pub copy_op : s.copy.op ≡ op.CopyValue
  copy_op = op_is op.CopyValue s.copy s.copies.copies

  pub destroy_op : s.destroy.op ≡ op.DestroyValue
  destroy_op = op_is op.DestroyValue s.destroy s.destroys.destroys

  pub copy_at : IsAt f p.block.0 p.index s.copy
  copy_at = record {
    within = s.block;
    is_block = s.there;
    is_inst = ap (λ xs. slice_get (xs ++ s.block.terminator ∷ []) p.index) s.insts
        ∙ ap (λ xs. slice_get xs p.index) (append_assoc s.front (s.copy ∷ (s.middle ++ s.destroy ∷ s.back)) (s.block.terminator ∷ []))
        ∙ ap (slice_get (s.front ++ s.copy ∷ ((s.middle ++ s.destroy ∷ s.back) ++ s.block.terminator ∷ []))) (sym s.at_copy)
        ∙ at_seam s.front s.copy ((s.middle ++ s.destroy ∷ s.back) ++ s.block.terminator ∷ []);
  }

  pub destroy_at : IsAt f p.block.0 last s.destroy
  destroy_at = record {
    within = s.block;
    is_block = s.there;
    is_inst = ap (λ xs. slice_get (xs ++ s.block.terminator ∷ []) last) (s.insts ∙ sym (append_assoc s.front (s.copy ∷ s.middle) (s.destroy ∷ s.back)))
        ∙ ap (λ xs. slice_get xs last) (append_assoc (s.front ++ s.copy ∷ s.middle) (s.destroy ∷ s.back) (s.block.terminator ∷ []))
        ∙ ap (slice_get ((s.front ++ s.copy ∷ s.middle) ++ s.destroy ∷ (s.back ++ s.block.terminator ∷ []))) (sym (length-append s.front (s.copy ∷ s.middle) ∙ s.at_destroy))
        ∙ at_seam (s.front ++ s.copy ∷ s.middle) s.destroy (s.back ++ s.block.terminator ∷ []);
  }

  -- the operand's value, by its place
  pub operand_values : map value_of s.copy.operands ≡ v ∷ []
  operand_values = ap (map value_of) s.copies.operands ∙ ap (λ w. w ∷ []) s.copies.copied

  module _ (d : Declarations) (kept : is_some (row_types d s.copy) ≡ true) where
    pub type_written : IsNontrivialWritten d (written 0 s.copy)
    type_written = nontrivial_written d (written 0 s.copy) (subst (λ o. is_some (given_by o d s.copy) ≡ true) copy_op kept)

    pub copy_makes : made_types d s.copy ≡ type_written.ty ∷ []
    copy_makes = ap (λ (o : Op). unwrap_or (given_by o d s.copy) []) copy_op ∙ ap (λ (o : MadeTypes). unwrap_or o []) (given_nontrivial d (written 0 s.copy) type_written)

    pub move_makes : made_types d (move_of s.copy) ≡ type_written.ty ∷ []
    move_makes = ap (λ (o : MadeTypes). unwrap_or o []) (given_object d (written 0 s.copy) type_written)

    owned_by : (i : Inst) (k : ℕ) → result_kind_of i.op ≡ result_kind_of op.CopyValue
        → result_definition d i k ≡ result_definition_by (result_kind_of op.CopyValue) i (is_trivial_or_untyped d (slice_get (made_types d i) k))
    owned_by i k e = ap (λ x. result_definition_by x i (is_trivial_or_untyped d (slice_get (made_types d i) k))) e

    definition_same : (k : ℕ) → result_definition d (move_of s.copy) k ≡ result_definition d s.copy k
    definition_same k =
        owned_by (move_of s.copy) k refl ∙ ap (λ ts. result_definition_by (result_kind_of op.CopyValue) s.copy (is_trivial_or_untyped d (slice_get ts k))) (move_makes ∙ sym copy_makes)
        ∙ sym (owned_by s.copy k (ap result_kind_of copy_op))

    pub definitions_told : result_definitions d (move_of s.copy) ≡ result_definitions d s.copy
    definitions_told = each (range_with_len 0 (length s.copy.results))
      where
        each : (ks : List ℕ) → map (result_definition d (move_of s.copy)) ks ≡ map (result_definition d s.copy) ks
        each [] = refl
        each (k ∷ ks) = ap₂ (λ x xs. x ∷ xs) (definition_same k) (each ks)

    -- the definition of the copy
    pub copy_definition : slice_get (result_definitions d s.copy) 0 ≡ Some (defined origin.Owned [])
    copy_definition =
        ap (λ (rs : List ValueId). slice_get (map (result_definition d s.copy) (range_with_len 0 (length rs))) 0) s.copies.result
        ∙ ap (λ x. Some x) (owned_by s.copy 0 (ap result_kind_of copy_op)
        ∙ ap (λ ts. result_definition_by (result_kind_of op.CopyValue) s.copy (is_trivial_or_untyped d (slice_get ts 0))) copy_makes
        ∙ ap (λ t. defined (cond t origin.Plain origin.Owned) []) type_written.nontrivial)

  pub renamings_told : result_renamings (move_of s.copy) ≡ result_renamings s.copy
  renamings_told = ap (λ o. replicate (length s.copy.results) (renamed (cond (renames o) (map value_of s.copy.operands) []))) (sym copy_op)

  pub copy_renaming : slice_get (result_renamings s.copy) 0 ≡ Some (renamed (v ∷ []))
  copy_renaming =
      ap (λ (rs : List ValueId). slice_get (replicate (length rs) (renamed (cond (renames s.copy.op) (map value_of s.copy.operands) []))) 0) s.copies.result
      ∙ ap (λ o. Some (renamed (cond (renames o) (map value_of s.copy.operands) []))) copy_op ∙ ap (λ vs. Some (renamed vs)) operand_values

  pub borrows_told : result_borrows (move_of s.copy) ≡ result_borrows s.copy
  borrows_told = ap (λ o. replicate (length s.copy.results) (borrow_by (result_kind_of o) s.copy)) (sym copy_op)

  pub no_results : (d : Declarations) → is_count_by (results_of s.destroy.op) (row_types d s.destroy) (length s.destroy.results) ≡ true → s.destroy.results ≡ []
  no_results d kept = no_results_left s.destroy.results (subst (λ o. is_count_by (results_of o) (row_types d s.destroy) (length s.destroy.results) ≡ true) destroy_op kept)
