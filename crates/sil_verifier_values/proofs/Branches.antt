-- What a branch hands over: its block's arguments take it over, one by one.
use Rattle.std.proofs.Common.{◌≡◌, ℕ, zero, suc, ◌<◌, List, [], ◌∷◌, ◌++◌, length, map, refl, sym, ap, ap₂, ◌∙◌, arith, Bool, true, false, ◌⊎◌, inl, inr, Option, Some, None}
use Rattle.std.specs.Prelude.{◌==◌, is_none, slice_get}
use Rattle.std.specs.List.{AllZip, flat_map, list_all}
use Rattle.std.specs.Option.{option_to_list}
use Rattle.std.proofs.lemmas.Bool.{and_parts}
use Rattle.std.proofs.lemmas.List.Elements.{Contains-append_right}
use Rattle.std.proofs.lemmas.Option.{same_Some}
use Rattle.instruction_table.specs.Forms.{ending_of}
use Rattle.instruction_table.specs.declared.entries.Ending.TheVariants as ending
use Rattle.instruction_table.specs.declared.op.Op.TheVariants as op
use Rattle.sil_cfg_items.specs.Parts.{edge_at, edge_in, terminator_in, terminator_of}
use Rattle.sil_cfg_items.specs.Roles.{consumed, taken_along, taken_by}
use Rattle.numbered_form.proofs.Lists.{contained}
use Rattle.numbered_form.specs.inner.Parts.{are_edges_by, is_branch, is_typed}
use Rattle.holder_model_typing.specs.ownership_kinds_chains.OwnershipChains.Chains.{operands_at}
use Rattle.holder_model_typing.specs.ownership_kinds_chains.OwnershipChains.Facts.{origin_at, told_by}
use Rattle.holder_model_typing.specs.ownership_kinds_chains.declared.ownership_chains.definition.Origin.TheVariants as origin
use Rattle.holder_model_typing.specs.ownership_kinds_chains.declared.ownership_chains.facts.Facts.{Facts}
use Rattle.holder_model_typing.specs.ownership_kinds_origins.Facts.{kind_in}
use Rattle.sil_verifier_accepted.specs.ownership_kinds.Statics.{fits_block, is_annotated_well, is_owned_annotation}
use Rattle.sil_verifier_accepted.specs.ownership_kinds.Statics.IsBroken.{annotated}
use Rattle.holder_model_typing.specs.ownership_kinds_origins.Origins.{arg_definition_by, definitions_of, is_trivial_or_untyped, is_zero}
use Rattle.holder_model_typing.specs.ownership_kinds_origins.Switched.{switch_to}
use Rattle.numbered_form.specs.PointChecks.Points.{IsAt}
use Rattle.holder_model_typing.proofs.RunTypingLaws.Found.{not_false}
use Rattle.holder_model_typing.proofs.RunTypingLaws.FunctionFacts.{TypedInst}
use Rattle.holder_model_typing.proofs.RunTypingLaws.Rows.Finding.{fails_at, passes_at, some_of}
use Rattle.holder_model_typing.proofs.RunTypingLaws.ShapeFacts.{same_types}
use Rattle.holder_model_typing.proofs.RunTypingLaws.ValueForms.{edges_written}
use Rattle.sil_ast.specs.Blocks.{args_in, args_of}
use Rattle.sil_ast.specs.declared.function.ArgKind.{ArgKind}
use Rattle.sil_ast.specs.declared.function.ArgKind.TheVariants as annotation
use Rattle.sil_ast.specs.declared.function.Block.{Block}
use Rattle.sil_ast.specs.declared.function.BlockArg.{BlockArg}
use Rattle.sil_ast.specs.declared.function.Function.{Function}
use Rattle.sil_ast.specs.declared.inst.Edge.{Edge}
use Rattle.sil_ast.specs.declared.inst.Inst.{Inst}
use Rattle.sil_ast.specs.declared.module.Module.{Module}
use Rattle.sil_ast.specs.declared.operands.Operand.{Operand}
use Rattle.sil_ast.specs.declared.place.EdgeId.{EdgeId}
use Rattle.sil_ast.specs.declared.type_name.TypeName.{TypeName}
use Rattle.sil_rules.specs.declared.rule.Rule.TheVariants as rule
use Rattle.holder_model_typing.specs.sil_types.Typing.EdgeRules.{goes_to_entry, has_block_types, has_wrong_edge_arguments, have_wrong_arguments_by, is_to_entry}
use Rattle.holder_model_typing.specs.sil_types.Typing.OperandTypes.{edge_is_as_written, is_as_written}
use Rattle.holder_model_typing.specs.sil_types.Typing.RowTypes.{all_written}
use Rattle.holder_model_typing.specs.sil_types.Typing.Same.{are_same_types, is_same_type}
use Rattle.holder_model_typing.specs.sil_types.Typing.Values.{arg_type, value_types}
use Rattle.holder_model_typing.specs.sil_types_declarations.TypeDefinitions.Declarations.{Declarations, declarations_of}
use Rattle.holder_model_typing.specs.sil_types_declarations.TypeDefinitions.Measures.{is_trivial}
use Rattle.holder_model_typing.specs.sil_types_declarations.declared.type_definitions.kind.Kind.TheVariants as kind
use Rattle.sil_verifier_values.specs.inner.Handed.{AreTakenOver, Becomes, TakesOver}
use Rattle.sil_verifier_values.specs.inner.Known.{IsAcceptedBody, facts_at, kind_at, type_in}
use Rattle.sil_verifier_values.specs.inner.Operands.{MayEnd}
use Rattle.sil_verifier_values.proofs.Accepted.{counted, has_kinds, typed}
use Rattle.sil_verifier_values.proofs.Counted.{contains_map, in_all}
use Rattle.sil_verifier_values.proofs.Facts.{facts_so}
use Rattle.sil_verifier_values.proofs.Places.{argument_is_value}
use Rattle.sil_verifier_values.proofs.Suited.{suits_at, trivial_so}
use Rattle.sil_verifier_values.proofs.Switching.{Leaves, no_switch}
use Rattle.sil_verifier_values.proofs.TableRows.{argument_rows}
use Rattle.sil_verifier_values.proofs.Written.{written_type}

holds : (b : Bool) → (b ≡ false → ⊥) → b ≡ true
holds true h = refl
holds false h = absurd (h refl)

pub owned_annotation : (k : ArgKind) → is_owned_annotation k ≡ true → k ≡ annotation.Owned
owned_annotation annotation.Plain e = cc
owned_annotation annotation.Owned e = refl
owned_annotation annotation.Guaranteed e = cc

module _ (m : Module) (n : ℕ) (f : Function) (a : IsAcceptedBody m n f) where
  abbrev d : Declarations
  d = declarations_of m

  -- ---- edges

  pub edge_leaves : (e : EdgeId) (i : Inst) (x : Edge) → terminator_of f e.block.0 ≡ Some i → edge_at f e ≡ Some x → Leaves f e.block.0 e.index i x
  edge_leaves e i x ends is = at (slice_get f.blocks e.block.0) refl ends
    where
      at : (o : Option Block) → slice_get f.blocks e.block.0 ≡ o → terminator_in o ≡ Some i → Leaves f e.block.0 e.index i x
      at None none h = cc
      at (Some b) some h = record {
        block = b;
        is_block = some;
        ends = same_Some b.terminator i h;
        there = ap (λ o. edge_in o e.index) (sym ends) ∙ is;
      }

  pub known_end : (b : ℕ) (i : Inst) → terminator_of f b ≡ Some i → TypedInst m f i
  known_end b i ends = let end = (typed m n f a).ends b i ends in (typed m n f a).insts b end.0 i end.2

  -- 211: it goes to another block than the entry
  pub behind_entry : (e : EdgeId) (i : Inst) (x : Edge) → terminator_of f e.block.0 ≡ Some i → slice_get i.edges e.index ≡ Some x → 0 < x.block.0
  unfolding goes_to_entry
  behind_entry e i x ends there = at x.block.0 (fails_at is_to_entry i.edges e.index x (known_end e.block.0 i ends).entry there)
    where
      at : (b : ℕ) → (b == 0) ≡ false → 0 < b
      at zero h = cc
      at (suc b) h = omega arith

  -- ---- arguments behind them

  -- 305 at an argument
  pub annotated_well : (b k : ℕ) (x : BlockArg) → 0 < b → slice_get (args_of f b) k ≡ Some x
      → is_annotated_well (kind_in d f) (switch_to f b) (is_trivial d x.ty) x.kind ≡ true
  annotated_well b k x lt at = by (slice_get f.blocks b) refl at
    where
      by : (o : Option Block) → slice_get f.blocks b ≡ o → slice_get (args_in o) k ≡ Some x → is_annotated_well (kind_in d f) (switch_to f b) (is_trivial d x.ty) x.kind ≡ true
      by None none h = cc
      by (Some block) some h = holds _ (λ e. has_kinds m n f a rule.ArgumentKind x.value b 0 (annotated b block x lt some (contained block.args k x h) e))

  -- an argument with `@owned` is Owned
  pub owned_argument : (b k : ℕ) (x : BlockArg) → slice_get (args_of f b) k ≡ Some x → x.kind ≡ annotation.Owned → is_trivial d x.ty ≡ false
      → kind_at d f x.value ≡ kind.Owned
  owned_argument b k x at e nontrivial =
      let row = argument_rows m n f a b k x at in
      let defs = definitions_of d f in
      let is_owned : origin_at defs x.value ≡ origin.Owned =
      row.defined.origin
      ∙ ap₂ (λ c t. (arg_definition_by (is_zero b) (switch_to f b) c t).origin) e nontrivial in
      ap (λ (y : Facts). y.kind) (facts_so m n f a x.value (argument_is_value f (counted m n f a) b k x at))
      ∙ ap (λ o. (told_by (length defs) x.value (facts_at d f) (operands_at defs x.value) o).kind) is_owned

  pub plain_argument : (b k : ℕ) (x : BlockArg) → slice_get (args_of f b) k ≡ Some x → is_trivial d x.ty ≡ true → kind_at d f x.value ≡ kind.Plain
  plain_argument b k x at trivial = trivial_so m n f a x.value (ap (is_trivial_or_untyped d) (argument_rows m n f a b k x at).typed ∙ trivial)

  -- ---- branches

  pub handed_ends : (block index k j : ℕ) (i : Inst) (x : Edge) (o : Operand) → IsAt f block index i → slice_get i.edges k ≡ Some x → slice_get x.args j ≡ Some o → MayEnd d f o.value
  handed_ends block index k j i x o here edge at =
      suits_at m n f a block index i (consumed o) here
      (Contains-append_right (taken_by i) (flat_map taken_along i.edges) (consumed o)
      (in_all taken_along i.edges k x (consumed o) edge (contains_map consumed x.args o (contained x.args j o at))))

  takes_over : (b k : ℕ) (o : Operand) (x : BlockArg) → 0 < b → switch_to f b ≡ None → slice_get (args_of f b) k ≡ Some x → MayEnd d f o.value
      → type_in d f o.value ≡ Some x.ty → TakesOver d f o x
  takes_over b k o x lt none at ends ty = record { ends = ends; typed = ty; becomes = by (is_trivial d x.ty) refl }
    where
      fits : fits_block (is_trivial d x.ty) x.kind ≡ true
      fits = ap (λ s. is_annotated_well (kind_in d f) s (is_trivial d x.ty) x.kind) (sym none) ∙ annotated_well b k x lt at

      becomes : MayEnd d f o.value → kind_at d f x.value ≡ kind.Owned → Becomes (kind_at d f o.value) (kind_at d f x.value)
      becomes (inl owned) e = inl (owned ∙ sym e)
      becomes (inr plain) e = inr (plain, e)

      by : (t : Bool) → is_trivial d x.ty ≡ t → Becomes (kind_at d f o.value) (kind_at d f x.value)
      by true e = inl (trivial_so m n f a o.value (ap (is_trivial_or_untyped d) ty ∙ e) ∙ sym (plain_argument b k x at e))
      by false e = becomes ends (owned_argument b k x at (owned_annotation x.kind (ap (λ t. fits_block t x.kind) (sym e) ∙ fits)) e)

  -- operands with types written, and arguments of these types
  all_taken_over : (os : List Operand) (xs : List BlockArg) → list_all is_typed os ≡ true → are_same_types (all_written os) (map arg_type xs) ≡ true
      → ((k : ℕ) (o : Operand) (x : BlockArg) → slice_get os k ≡ Some o → slice_get xs k ≡ Some x → o.ty ≡ Some x.ty → TakesOver d f o x)
      → AllZip (TakesOver d f) os xs
  all_taken_over [] [] typed same h = tt
  all_taken_over [] (x ∷ xs) typed same h = cc
  all_taken_over (o ∷ os) xs typed same h =
      let both = and_parts (is_typed o) (list_all is_typed os) typed in
      let t = some_of o.ty both.0 in
      at xs t.0 t.1 (ap (λ y. are_same_types (option_to_list y ++ all_written os) (map arg_type xs)) (sym t.1) ∙ same) (λ ys e k. all_taken_over os ys both.1 e k) h
    where
      at : (xs : List BlockArg) (t : TypeName) → o.ty ≡ Some t → are_same_types (t ∷ all_written os) (map arg_type xs) ≡ true
          → ((ys : List BlockArg) → are_same_types (all_written os) (map arg_type ys) ≡ true
          → ((k : ℕ) (p : Operand) (x : BlockArg) → slice_get os k ≡ Some p → slice_get ys k ≡ Some x → p.ty ≡ Some x.ty → TakesOver d f p x)
          → AllZip (TakesOver d f) os ys)
          → ((k : ℕ) (p : Operand) (x : BlockArg) → slice_get (o ∷ os) k ≡ Some p → slice_get xs k ≡ Some x → p.ty ≡ Some x.ty → TakesOver d f p x)
          → AllZip (TakesOver d f) (o ∷ os) xs
      at [] t is e rest h = cc
      at (x ∷ xs) t is e rest h =
          let both = and_parts (is_same_type t x.ty) (are_same_types (all_written os) (map arg_type xs)) e in
          (h 0 o x refl refl (is ∙ ap (λ u. Some u) (same_types t x.ty both.0)), rest xs both.1 (λ k. h (suc k)))

  record IsBranch (i : Inst) : Type 0 where
    branches : list_all is_branch i.edges ≡ true
    same : list_all (has_block_types f) i.edges ≡ true
    no_cases : ending_of i.op ≡ ending.Cases → ⊥

  is_branch_inst : (i : Inst) → TypedInst m f i → (i.op ≡ op.Br) ⊎ (i.op ≡ op.CondBr) → IsBranch i
  unfolding has_wrong_edge_arguments
  is_branch_inst i known (inl e) = record {
    branches = (and_parts (length i.edges == 1) (list_all is_branch i.edges) (ap (λ o. are_edges_by (ending_of o) i.edges) (sym e) ∙ known.parts.edges)).1;
    same = not_false _ (ap (λ o. have_wrong_arguments_by o f i.edges) (sym e) ∙ known.edges);
    no_cases = λ h. let no : ending.OneBranch ≡ ending.Cases = ap ending_of (sym e) ∙ h in cc;
  }
  is_branch_inst i known (inr e) = record {
    branches = (and_parts (length i.edges == 2) (list_all is_branch i.edges) (ap (λ o. are_edges_by (ending_of o) i.edges) (sym e) ∙ known.parts.edges)).1;
    same = not_false _ (ap (λ o. have_wrong_arguments_by o f i.edges) (sym e) ∙ known.edges);
    no_cases = λ h. let no : ending.TwoBranches ≡ ending.Cases = ap ending_of (sym e) ∙ h in cc;
  }

  taken_over_by : (e : EdgeId) (i : Inst) (x : Edge) → terminator_of f e.block.0 ≡ Some i → Leaves f e.block.0 e.index i x → IsBranch i
      → AllZip (TakesOver d f) x.args (args_of f x.block.0)
  taken_over_by e i x ends leaves branch =
      let end = (typed m n f a).ends e.block.0 i ends in
      let lt = behind_entry e i x ends leaves.there in
      let none = no_switch m n f a e.block.0 e.index i x leaves branch.no_cases in
      let types = passes_at (edge_is_as_written (value_types d f)) i.edges e.index x (edges_written m f i (known_end e.block.0 i ends)) leaves.there in
      all_taken_over x.args (args_of f x.block.0)
      (and_parts (is_none x.case_of) (list_all is_typed x.args) (passes_at is_branch i.edges e.index x branch.branches leaves.there)).1
      (passes_at (has_block_types f) i.edges e.index x branch.same leaves.there)
      (λ k o y is at ty. takes_over x.block.0 k o y lt none at (handed_ends e.block.0 end.0 e.index k i x o end.2 leaves.there is)
      (written_type d f o y.ty ty (passes_at (is_as_written (value_types d f)) x.args k o types is)))

pub taken_over : AreTakenOver
taken_over m n f a e i x ends is branch =
    taken_over_by m n f a e i x ends (edge_leaves m n f a e i x ends is) (is_branch_inst m n f a i (known_end m n f a e.block.0 i ends) branch)
