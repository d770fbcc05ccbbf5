-- What the entry and the edges of a lowered function define, and the operands of terminators that choose.
use Rattle.std.proofs.Common.{◌≡◌, ◌⊎◌, inl, inr, ℕ, List, [], ◌∷◌, length, map, refl, sym, ap, ◌∙◌, subst, Bool, true, false, cond, Option, Some, None, eq-eqb}
use Rattle.std.specs.Prelude.{◌&&◌, ◌||◌, slice_get}
use Rattle.std.proofs.lemmas.Bool.{eqb-true, false≢true}
use Rattle.std.proofs.lemmas.List.{length-map}
use Rattle.std.proofs.lemmas.Option.{none-some}
use Rattle.instruction_table.specs.Forms.{ending_of}
use Rattle.instruction_table.specs.declared.entries.Ending.TheVariants as ending
use Rattle.instruction_table.specs.declared.op.Op.{Op}
use Rattle.instruction_table.specs.declared.op.Op.TheVariants as op
use Rattle.sil_cfg_items.specs.Items.{arg_value, item_defined}
use Rattle.sil_cfg_items.specs.Parts.{args_behind, edge_at, edge_in, terminator_in, terminator_of}
use Rattle.numbered_form.specs.Lists.{Each}
use Rattle.numbered_form.specs.inner.Parts.{has_operands, is_bare, is_typed}
use Rattle.sil_ast.specs.Blocks.{args_of}
use Rattle.sil_ast.specs.declared.function.Block.{Block}
use Rattle.sil_ast.specs.declared.function.BlockArg.{BlockArg}
use Rattle.sil_ast.specs.declared.function.Function.{Function}
use Rattle.sil_ast.specs.declared.inst.Edge.{Edge}
use Rattle.sil_ast.specs.declared.inst.Inst.{Inst}
use Rattle.sil_ast.specs.declared.module.Module.{Module}
use Rattle.sil_ast.specs.declared.operands.Operand.{Operand}
use Rattle.sil_ast.specs.declared.place.EdgeId.{EdgeId}
use Rattle.sil_ast.specs.declared.place.ValueId.{ValueId}
use Rattle.sil_cfg.specs.declared.item.Item.{Item}
use Rattle.sil_cfg.specs.declared.item.Item.TheVariants as item
use Rattle.sil_types_declarations.specs.TypeDefinitions.Declarations.{Declarations, declarations_of}
use Rattle.numbered_form.specs.ValueTables.FirstValue.{first_value}
use Rattle.sil_verifier_runs.specs.holder_model.Edges.{is_default}
use Rattle.sil_verifier_runs.specs.ownership_kinds_origins.Renamings.{default_operand, renamings_of}
use Rattle.sil_verifier_runs.specs.ownership_kinds_origins.Switched.{switch_to}
use Rattle.sil_verifier_runs.specs.ownership_kinds_origins.declared.switched.Switched.{Switched}
use Rattle.ownership_lowering_laws.specs.ownership_lowering_model.LoweredBlocks.{without_annotation}
use Rattle.ownership_lowering_laws.specs.ownership_lowering_model.LoweredModules.{lowered_body}
use Rattle.ownership_lowering_laws.specs.ownership_lowering_model.Names.{renamed_from}
use Rattle.ownership_lowering_laws.specs.ownership_lowering_model.Numbers.{renumbered_arg, renumbered_edge}
use Rattle.ownership_lowering_laws.proofs.LoweringLaws.Ends.{stands_itself}
use Rattle.numbered_form.proofs.Lists.{each_both}
use Rattle.ownership_lowering_laws.proofs.LoweredTypingLaws.Args.{args_go, args_stay, lowered_args}
use Rattle.ownership_lowering_laws.proofs.LoweredTypingLaws.Sound.{SoundFunction}
use Rattle.ownership_lowering_laws.proofs.LoweredTypingLaws.Switches.{SwitchFrom, entry_kept, lone, switch_from}
use Rattle.sil_verifier_runs.specs.sil_verifier_values.inner.Known.{IsAcceptedBody}
use Rattle.sil_verifier_runs.proofs.sil_verifier_values.Accepted.{counted, typed}
use Rattle.ownership_lowering_runs.specs.StoredRuns.inner.Lowering.{IsEdgeLowered, IsOtherName, IsOwnName}
use Rattle.ownership_lowering_runs.specs.StoredRuns.inner.Names.{AreNamed, IsOld, lowered_number}
use Rattle.ownership_lowering_runs.proofs.StoredRuns.Lowered.LoweredCode.{low_edge}
use Rattle.ownership_lowering_runs.proofs.StoredRuns.Lowered.LoweredNames.{same_end}
use Rattle.ownership_lowering_runs.proofs.StoredRuns.RenamingRows.{IsNamedBy, args_named}

-- ---- terminators that choose

no_second : (b : Bool) → ((b && false) || false) ≡ true → ⊥
no_second true e = false≢true e
no_second false e = false≢true e

one_of_row : (o : Op) (os : List Operand) → has_operands o os ≡ true → (ending_of o ≡ ending.TwoBranches) ⊎ (ending_of o ≡ ending.Cases)
    → (x : Operand) × (os ≡ x ∷ [])
one_of_row op.CondBr [] e h = absurd (cc)
one_of_row op.CondBr (x ∷ []) e h = (x, refl)
one_of_row op.CondBr (x ∷ y ∷ os) e h = absurd (no_second (is_bare x) e)
one_of_row op.SwitchEnum [] e h = absurd (cc)
one_of_row op.SwitchEnum (x ∷ []) e h = (x, refl)
one_of_row op.SwitchEnum (x ∷ y ∷ os) e h = absurd (no_second (is_typed x) e)
one_of_row _ os e (inl h) = absurd (cc)
one_of_row _ os e (inr h) = absurd (cc)

module _ (m : Module) (n : ℕ) (f : Function) (a : IsAcceptedBody m n f) where
  pub one_chosen : (b : ℕ) (t : Inst) → terminator_of f b ≡ Some t → (ending_of t.op ≡ ending.TwoBranches) ⊎ (ending_of t.op ≡ ending.Cases)
      → (o : Operand) × (t.operands ≡ o ∷ [])
  one_chosen b t there h = one_of_row t.op t.operands ((typed m n f a).ends b t there).1.parts.operands h

-- ---- arguments

module _ (m : Module) (n : ℕ) (f : Function) (a : IsAcceptedBody m n f) (sound : SoundFunction m f) (named : AreNamed (declarations_of m) f)
    (old_defined : (i : Item) → Each (IsOld f) (item_defined f i)) where
  abbrev d : Declarations
  d = declarations_of m

  abbrev number : ValueId → ValueId
  number v = lowered_number d f v

  abbrev low : Function
  low = lowered_body d f

  stay_numbered : (args : List BlockArg) → map arg_value (map (renumbered_arg number) (map without_annotation args)) ≡ map number (map arg_value args)
  stay_numbered [] = refl
  stay_numbered (x ∷ args) = ap (λ vs. number x.value ∷ vs) (stay_numbered args)

  module _ (b : ℕ) (none : default_operand (switch_to f b) ≡ []) where
    kept_args : args_of low b ≡ map (renumbered_arg number) (map without_annotation (args_of f b))
    kept_args = lowered_args d f b ∙ ap (map (renumbered_arg number)) (args_stay f (counted m n f a) b none)

    kept_values : map arg_value (args_of low b) ≡ map number (map arg_value (args_of f b))
    kept_values = ap (map arg_value) kept_args ∙ stay_numbered (args_of f b)

    kept_length : length (args_of low b) ≡ length (args_of f b)
    kept_length =
        sym (length-map (args_of low b) arg_value) ∙ ap length kept_values ∙ length-map (map arg_value (args_of f b)) number ∙ length-map (args_of f b) arg_value

    own_args : Each (IsOld f) (map arg_value (args_of f b)) → Each (IsOwnName f) (map arg_value (args_of f b))
    own_args old_args =
        each_both (IsOld f) (IsNamedBy f (counted m n f a) (default_operand (switch_to f b))) (IsOwnName f)
        (λ v old is. (old, stands_itself (renamings_of f) v (is ∙ ap (λ vs. slice_get vs 0) none))) (map arg_value (args_of f b))
        old_args (args_named f (counted m n f a) b)

  pub entry_defined : item_defined low item.Entry ≡ map number (item_defined f item.Entry)
  entry_defined = kept_values 0 (entry_kept m f sound)

  pub entry_own : Each (IsOwnName f) (item_defined f item.Entry)
  entry_own = own_args 0 (entry_kept m f sound) (old_defined item.Entry)

  defines_along : (g : Function) (e : EdgeId) (y : Edge) → edge_at g e ≡ Some y → item_defined g (item.Edge e) ≡ map arg_value (args_of g y.block.0)
  defines_along g e y is = ap (λ o. map arg_value (args_behind g o)) is

  module _ (e : EdgeId) (y : Edge) (is : edge_at f e ≡ Some y) where
    old_args : Each (IsOld f) (map arg_value (args_of f y.block.0))
    old_args = subst (Each (IsOld f)) (defines_along f e y is) (old_defined (item.Edge e))

    low_defines : item_defined low (item.Edge e) ≡ map arg_value (args_of low y.block.0)
    low_defines = defines_along low e (renumbered_edge number y) (low_edge d f e y is)

    edge_keeps : default_operand (switch_to f y.block.0) ≡ [] → IsEdgeLowered d f e y
    edge_keeps none =
        IsEdgeLowered.keeps (kept_length y.block.0 none)
        (low_defines ∙ kept_values y.block.0 none ∙ ap (map number) (sym (defines_along f e y is)))
        (subst (Each (IsOwnName f)) (sym (defines_along f e y is)) (own_args y.block.0 none old_args))

    edge_names : (s : Switched) → switch_to f y.block.0 ≡ Some s → s.is_default ≡ true → IsEdgeLowered d f e y
    edge_names s to default = at (slice_get f.blocks e.block.0) refl is
      where
        gone : default_operand (switch_to f y.block.0) ≡ s.operand ∷ []
        gone = ap default_operand to ∙ ap (λ b. cond b (s.operand ∷ []) []) default

        no_args : args_of low y.block.0 ≡ []
        no_args = lowered_args d f y.block.0 ∙ ap (map (renumbered_arg number)) (args_go f (counted m n f a) y.block.0 s.operand gone)

        other : (v : ValueId) → IsOld f v → renamed_from (renamings_of f) v ≡ slice_get (default_operand (switch_to f y.block.0)) 0 → IsOtherName d f s.operand v
        other v old name = (
          old,
          named.through v
              ∙ ap number (same_end (renamings_of f) v s.operand (name ∙ ap (λ vs. slice_get vs 0) gone) (named.own v old))
              ∙ sym (named.through s.operand),
        )

        others : Each (IsOtherName d f s.operand) (map arg_value (args_of f y.block.0))
        others =
            each_both (IsOld f) (IsNamedBy f (counted m n f a) (default_operand (switch_to f y.block.0))) (IsOtherName d f s.operand) other
            (map arg_value (args_of f y.block.0)) old_args (args_named f (counted m n f a) y.block.0)

        at : (o : Option Block) → slice_get f.blocks e.block.0 ≡ o → edge_in (terminator_in o) e.index ≡ Some y → IsEdgeLowered d f e y
        at None there h = absurd (none-some y h)
        at (Some b) there h =
            let x : SwitchFrom f y.block.0 s = switch_from f y.block.0 s to in
            let goes : x.edge.block.0 ≡ y.block.0 = eqb-true x.edge.block.0 y.block.0 x.goes in
            let one = lone m f sound x.place e.block.0 x.index e.index x.from b x.edge y x.is_block x.is_edge x.is_switch there h (eq-eqb y.block.0 x.edge.block.0 (sym goes)) in
            IsEdgeLowered.names b.terminator s.operand (ap terminator_in there)
            (ap (λ (c : Block). ending_of c.terminator.op) (sym one.0) ∙ ap ending_of x.is_switch)
            (ap (λ (c : Block). first_value c.terminator) (sym one.0) ∙ x.operand)
            (ap is_default (sym one.1) ∙ sym x.default ∙ default)
            no_args (low_defines ∙ ap (map arg_value) no_args) (subst (Each (IsOtherName d f s.operand)) (sym (defines_along f e y is)) others)

    pub edge_lowered : IsEdgeLowered d f e y
    edge_lowered = at (switch_to f y.block.0) refl
      where
        at : (o : Option Switched) → switch_to f y.block.0 ≡ o → IsEdgeLowered d f e y
        at None to = edge_keeps (ap default_operand to)
        at (Some s) to = by s.is_default refl
          where
            by : (b : Bool) → s.is_default ≡ b → IsEdgeLowered d f e y
            by true default = edge_names s to default
            by false default = edge_keeps (ap default_operand to ∙ ap (λ b. cond b (s.operand ∷ []) []) default)
