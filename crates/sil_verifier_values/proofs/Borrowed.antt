-- Scopes by their rows: a value that lends itself is the result of a borrow or a `@guaranteed` argument of the entry, and each borrow does.
use Rattle.std.proofs.Common.{◌≡◌, ℕ, zero, suc, ◌+◌, ◌<◌, ◌≤◌, List, [], ◌∷◌, length, map, refl, sym, ap, ◌∙◌, subst, arith, Bool, true, false, not, cond, ◌⊎◌, inl, inr, Option, Some, None}
use Rattle.std.specs.Prelude.{is_some, option_map, slice_get, unwrap_or}
use Rattle.std.specs.List.{flat_map}
use Rattle.std.proofs.lemmas.Bool.{and_parts, cases_lt, eqb-true, not-true}
use Rattle.std.proofs.lemmas.List.{length-replicate}
use Rattle.std.proofs.lemmas.Option.{slice_get-map, slice_get_past, slice_get_within}
use Rattle.instruction_table.specs.Forms.{result_kind_of, results_of as count_of_row}
use Rattle.instruction_table.specs.declared.entries.ResultKind.{ResultKind}
use Rattle.instruction_table.specs.declared.entries.ResultKind.TheVariants.{NoneResult, OwnedResult, ScopeResult, AddressResult, ForwardedResult, OperandResult}
use Rattle.instruction_table.specs.declared.entries.Results.TheVariants.{OneResult}
use Rattle.instruction_table.specs.declared.op.Op.{Op}
use Rattle.instruction_table.specs.declared.op.Op.TheVariants as op
use Rattle.numbered_form.proofs.Counted.{counted_split}
use Rattle.numbered_form.specs.Insts.{insts_of}
use Rattle.numbered_form.specs.Numbering.{AreCountedFrom, defined_in, results_of, value_of, values_of}
use Rattle.holder_model_typing.specs.ownership_kinds_chains.OwnershipChains.Facts.{origin_at}
use Rattle.holder_model_typing.specs.ownership_kinds_chains.declared.ownership_chains.definition.Origin.TheVariants as origin
use Rattle.holder_model_typing.specs.ownership_kinds_origins.Origins.{arg_definition_by, definitions_of, is_trivial_or_untyped, is_zero, result_origin}
use Rattle.holder_model_typing.specs.ownership_kinds_origins.Switched.{switch_to}
use Rattle.holder_model_typing.specs.ownership_kinds_origins.declared.switched.Switched.{Switched}
use Rattle.numbered_form.specs.PointChecks.Points.{IsAt}
use Rattle.holder_model_typing.proofs.RunTypingLaws.FunctionFacts.{TypedInst}
use Rattle.holder_model_typing.proofs.RunTypingLaws.Rows.Finding.{where_found}
use Rattle.holder_model_typing.proofs.RunTypingLaws.Rows.Shares.{given_one}
use Rattle.holder_model_typing.proofs.RunTypingLaws.ValueForms.{row_kept}
use Rattle.sil_ast.specs.Blocks.{args_in, args_of}
use Rattle.sil_ast.specs.declared.function.ArgKind.{ArgKind}
use Rattle.sil_ast.specs.declared.function.ArgKind.TheVariants as annotation
use Rattle.sil_ast.specs.declared.function.Block.{Block}
use Rattle.sil_ast.specs.declared.function.BlockArg.{BlockArg}
use Rattle.sil_ast.specs.declared.function.Function.{Function}
use Rattle.sil_ast.specs.declared.inst.Inst.{Inst}
use Rattle.sil_ast.specs.declared.module.Module.{Module}
use Rattle.sil_ast.specs.declared.place.ValueId.{ValueId}
use Rattle.sil_ast.specs.declared.type_name.TypeName.{TypeName}
use Rattle.holder_model_typing.specs.sil_types.Typing.ResultCounts.{is_count_by}
use Rattle.holder_model_typing.specs.sil_types.Typing.RowTypes.{given_by, gives, made_types, row_types}
use Rattle.holder_model_typing.specs.sil_types.Typing.Shapes.{is_nontrivial, is_object, where_it}
use Rattle.holder_model_typing.specs.sil_types_declarations.TypeDefinitions.Declarations.{Declarations, declarations_of}
use Rattle.holder_model_typing.specs.sil_types_declarations.TypeDefinitions.Measures.{is_trivial}
use Rattle.numbered_form.proofs.ValueTables.Rows.{rows_count}
use Rattle.numbered_form.specs.ValueTables.Borrows.{arg_borrows, borrow_at, borrow_by, borrows, borrows_of, is_borrow, result_borrows}
use Rattle.numbered_form.specs.declared.value_tables.borrows.Borrow.{Borrow}
use Rattle.numbered_form.specs.declared.value_tables.borrows.Borrow.TheVariants.{NoBorrow}
use Rattle.sil_verifier_values.specs.inner.Known.{IsAcceptedBody, IsValue}
use Rattle.sil_verifier_values.proofs.Accepted.{counted, typed}
use Rattle.sil_verifier_values.proofs.Counted.{number_at}
use Rattle.sil_verifier_values.proofs.Defined.{IsDefined, a_result, an_argument, defined_so}
use Rattle.sil_verifier_values.proofs.TableRows.{argument_rows, result_rows}

-- ---- results

only_scopes : (k : ResultKind) (trivial : Bool) → result_origin k trivial ≡ origin.Lender → k ≡ ScopeResult
only_scopes NoneResult trivial e = cc
only_scopes OwnedResult true e = cc
only_scopes OwnedResult false e = cc
only_scopes ScopeResult trivial e = refl
only_scopes AddressResult trivial e = cc
only_scopes ForwardedResult true e = cc
only_scopes ForwardedResult false e = cc
only_scopes OperandResult true e = cc
only_scopes OperandResult false e = cc

only_borrows : (k : ResultKind) (i : Inst) → borrows (borrow_by k i) ≡ true → k ≡ ScopeResult
only_borrows NoneResult i e = cc
only_borrows OwnedResult i e = cc
only_borrows ScopeResult i e = refl
only_borrows AddressResult i e = cc
only_borrows ForwardedResult i e = cc
only_borrows OperandResult i e = cc

each_lends : (address : Bool) (v : Option ValueId) → borrows (borrow_at address v) ≡ true
each_lends true v = refl
each_lends false None = refl
each_lends false (Some v) = refl

-- what a borrow gives isn't trivial
record IsScopeRow (d : Declarations) (o : Op) (i : Inst) : Type 0 where
  ty : TypeName
  given : given_by o d i ≡ Some (ty ∷ [])
  holds : is_trivial d ty ≡ false
  one : count_of_row o ≡ OneResult

scope_type : (d : Declarations) (o : Option TypeName) → is_some (gives (where_it (is_nontrivial d) o)) ≡ true
    → (t : TypeName) × (gives (where_it (is_nontrivial d) o) ≡ Some (t ∷ [])) × (is_trivial d t ≡ false)
scope_type d o e =
    let it = given_one (where_it (is_nontrivial d) o) e in
    let both = and_parts (is_object it.0) (not (is_trivial d it.0)) (where_found (is_nontrivial d) o it.0 it.1).1 in
    (it.0, ap gives it.1, not-true (is_trivial d it.0) both.1)

scope_row : (d : Declarations) (o : Op) (i : Inst) → result_kind_of o ≡ ScopeResult → is_some (given_by o d i) ≡ true → IsScopeRow d o i
scope_row d op.BeginBorrow i e h = let it = scope_type d _ h in record { ty = it.0; given = it.1; holds = it.2; one = refl }
scope_row d op.LoadBorrow i e h = let it = scope_type d _ h in record { ty = it.0; given = it.1; holds = it.2; one = refl }
scope_row d _ i e h = absurd (cc)

module _ (m : Module) (n : ℕ) (f : Function) (a : IsAcceptedBody m n f) where
  abbrev d : Declarations
  d = declarations_of m

  scope_held : (block index k : ℕ) (i : Inst) (v : ValueId) → IsAt f block index i → slice_get i.results k ≡ Some v → result_kind_of i.op ≡ ScopeResult
      → is_trivial_or_untyped d (slice_get (made_types d i) k) ≡ false
  scope_held block index k i v here at e =
      let known : TypedInst m f i = (typed m n f a).insts block index i here in
      let row = scope_row d i.op i e (row_kept m f i known) in
      let count : length i.results ≡ 1 =
      eqb-true (length i.results) 1 (subst (λ x. is_count_by x (row_types d i) (length i.results) ≡ true) row.one known.results) in
      let lt : k < length i.results = slice_get_within i.results k v at in
      let first : k ≡ 0 = omega arith in
      ap (λ o. is_trivial_or_untyped d (slice_get (unwrap_or o []) k)) row.given
      ∙ ap (λ j. is_trivial_or_untyped d (slice_get (row.ty ∷ []) j)) first ∙ row.holds

  -- ---- arguments

  only_entry : (entry : Bool) (s : Option Switched) (k : ArgKind) (trivial : Bool) → (arg_definition_by entry s k trivial).origin ≡ origin.Lender → entry ≡ true
  only_entry entry s annotation.Plain trivial e = cc
  only_entry entry s annotation.Owned true e = cc
  only_entry entry s annotation.Owned false e = cc
  only_entry true s annotation.Guaranteed trivial e = refl
  only_entry false s annotation.Guaranteed true e = cc
  only_entry false s annotation.Guaranteed false e = cc

  first_block : (b : ℕ) → is_zero b ≡ true → b ≡ 0
  first_block zero e = refl
  first_block (suc b) e = cc

  pub number_of_parameter : (k : ℕ) (x : BlockArg) → slice_get (args_of f 0) k ≡ Some x → x.value.0 ≡ k
  number_of_parameter k x at = by f.blocks (counted m n f a) at
    where
      by : (bs : List Block) → AreCountedFrom 0 (values_of bs) → slice_get (args_in (slice_get bs 0)) k ≡ Some x → x.value.0 ≡ k
      by [] c e = cc
      by (b ∷ bs) c e =
          let own = (counted_split 0 (defined_in b) (values_of bs) c).0 in
          let args = (counted_split 0 (map value_of b.args) (flat_map results_of (insts_of b)) own).0 in
          let number : x.value.0 ≡ 0 + k = number_at 0 (map value_of b.args) k x.value args (slice_get-map value_of b.args k ∙ ap (option_map value_of) e) in
          omega arith

  -- ---- what lends itself, and borrows

  opened_by : (v : ValueId) → IsDefined f v → origin_at (definitions_of d f) v ≡ origin.Lender → (is_borrow f v ≡ true) ⊎ (v.0 < length (args_of f 0))
  opened_by _ (a_result block index k i v here at) e =
      let row = result_rows m n f a block index k i v here at in
      let scope = only_scopes (result_kind_of i.op) _ (sym row.defined.origin ∙ e) in
      inl (ap borrows (row.borrow ∙ ap (λ x. borrow_by x i) scope) ∙ each_lends _ _)
  opened_by _ (an_argument b k x at) e =
      let row = argument_rows m n f a b k x at in
      let entry : b ≡ 0 = first_block b (only_entry (is_zero b) (switch_to f b) x.kind _ (sym row.defined.origin ∙ e)) in
      let here : slice_get (args_of f 0) k ≡ Some x = subst (λ c. slice_get (args_of f c) k ≡ Some x) entry at in
      let number : x.value.0 ≡ k = number_of_parameter k x here in
      let lt : k < length (args_of f 0) = slice_get_within (args_of f 0) k x here in
      inr (omega arith)

  pub opened : (v : ValueId) → IsValue f v → origin_at (definitions_of d f) v ≡ origin.Lender → (is_borrow f v ≡ true) ⊎ (v.0 < length (args_of f 0))
  opened v lt e = opened_by v (defined_so m n f v a lt) e

  lends_by : (v : ValueId) → IsDefined f v → is_borrow f v ≡ true → origin_at (definitions_of d f) v ≡ origin.Lender
  lends_by _ (a_result block index k i v here at) e =
      let row = result_rows m n f a block index k i v here at in
      let scope = only_borrows (result_kind_of i.op) i (ap borrows (sym row.borrow) ∙ e) in
      row.defined.origin
      ∙ ap (λ x. result_origin x (is_trivial_or_untyped d (slice_get (made_types d i) k))) scope
      ∙ ap (λ t. cond t origin.Plain origin.Lender) (scope_held block index k i v here at scope)
  lends_by _ (an_argument b k x at) e =
      let row = argument_rows m n f a b k x at in
      let none : borrows NoBorrow ≡ true = ap borrows (sym row.borrow) ∙ e in
      cc

  as_many_borrows : length (borrows_of f) ≡ length (values_of f.blocks)
  as_many_borrows =
      rows_count arg_borrows result_borrows (λ j xs. length-replicate (length xs) NoBorrow) (λ i. length-replicate (length i.results) (borrow_by (result_kind_of i.op) i)) 0 f.blocks

  pub borrow_is_value : (v : ValueId) → is_borrow f v ≡ true → IsValue f v
  borrow_is_value v e = at (cases_lt v.0 (length (values_of f.blocks)))
    where
      at : (v.0 < length (values_of f.blocks)) ⊎ (length (values_of f.blocks) ≤ v.0) → IsValue f v
      at (inl lt) = lt
      at (inr le) =
          let level : length (borrows_of f) ≡ length (values_of f.blocks) = as_many_borrows in
          let past : slice_get (borrows_of f) v.0 ≡ None = slice_get_past (borrows_of f) v.0 (omega arith) in
          let none : false ≡ true = ap (λ (o : Option Borrow). borrows (unwrap_or o NoBorrow)) (sym past) ∙ e in
          cc

  pub lends : (v : ValueId) → is_borrow f v ≡ true → origin_at (definitions_of d f) v ≡ origin.Lender
  lends v e = lends_by v (defined_so m n f v a (borrow_is_value v e)) e
