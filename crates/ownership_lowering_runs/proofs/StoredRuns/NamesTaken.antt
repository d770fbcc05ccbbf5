-- What makes another name for a value takes the value.
use Rattle.std.proofs.Common.{◌≡◌, ℕ, List, [], ◌∷◌, ◌++◌, append-nil, length, map, refl, sym, ap, ◌∙◌, subst, Bool, true, false, cond, ◌||◌, Option, Some, None, eq-eqb}
use Rattle.std.specs.Prelude.{◌==◌, option_map, slice_get}
use Rattle.std.specs.List.{list_any}
use Rattle.std.proofs.lemmas.Bool.{eqb-true, false≢true}
use Rattle.std.proofs.lemmas.List.Folds.{list_any-append}
use Rattle.std.proofs.lemmas.Option.{none-some, same_Some, slice_get-map}
use Rattle.argument_conventions.specs.declared.convention.ArgumentConvention.{ArgumentConvention}
use Rattle.instruction_table.specs.Forms.{roles_of}
use Rattle.instruction_table.specs.declared.op.Op.{Op}
use Rattle.instruction_table.specs.declared.op.Op.TheVariants as op
use Rattle.sil_cfg_items.specs.Items.{arg_value, item_taken, taken_along_in, taken_in}
use Rattle.sil_cfg_items.specs.Parts.{args_behind, edge_in, inst_at, results_in, terminator_in}
use Rattle.sil_cfg_items.specs.Roles.{conventions_in, roles_for, taken_by, taken_each}
use Rattle.numbered_form.specs.Lists.{Each}
use Rattle.ownership_kinds_chains.specs.OwnershipChains.Facts.{has}
use Rattle.sil_ast.specs.Blocks.{args_of}
use Rattle.sil_ast.specs.declared.function.Block.{Block}
use Rattle.sil_ast.specs.declared.function.Function.{Function}
use Rattle.sil_ast.specs.declared.inst.Edge.{Edge}
use Rattle.sil_ast.specs.declared.inst.Inst.{Inst}
use Rattle.sil_ast.specs.declared.module.Module.{Module}
use Rattle.sil_ast.specs.declared.operands.Operand.{Operand}
use Rattle.sil_ast.specs.declared.place.EdgeId.{EdgeId}
use Rattle.sil_ast.specs.declared.place.PointId.{PointId}
use Rattle.sil_ast.specs.declared.place.ValueId.{ValueId}
use Rattle.sil_cfg.specs.declared.item.Item.{Item}
use Rattle.sil_cfg.specs.declared.item.Item.TheVariants as items
use Rattle.numbered_form.specs.ValueTables.FirstValue.{first_value, value_of}
use Rattle.sil_verifier_runs.specs.ownership_kinds_origins.Renamings.{default_operand, renames, renamings_of}
use Rattle.sil_verifier_runs.specs.ownership_kinds_origins.Switched.{switch_to}
use Rattle.sil_verifier_runs.specs.ownership_kinds_origins.declared.switched.Switched.{Switched}
use Rattle.ownership_lowering_laws.specs.ownership_lowering_model.Names.{renamed_from}
use Rattle.ownership_lowering_laws.proofs.LoweringLaws.Known.{names_in}
use Rattle.ownership_lowering_laws.proofs.LoweredTypingLaws.Sound.{SoundFunction, sound_function}
use Rattle.ownership_lowering_laws.proofs.LoweredTypingLaws.Switches.{SwitchFrom, entry_kept, lone, switch_from}
use Rattle.sil_verifier_runs.specs.sil_verifier_trails.AcceptedTrails.inner.Defined.{makes}
use Rattle.sil_verifier_runs.proofs.sil_verifier_trails.AcceptedTrails.Tests.{picked, same_value}
use Rattle.sil_verifier_runs.specs.sil_verifier_values.inner.Known.{IsAcceptedBody}
use Rattle.sil_verifier_runs.proofs.sil_verifier_values.Accepted.{counted, typed}
use Rattle.ownership_lowering_runs.specs.StoredRuns.inner.Current.{AreNamesTaken, is_of}
use Rattle.ownership_lowering_runs.proofs.StoredRuns.RenamingRows.{IsNamedBy, args_named, results_named}

-- ---- the first operand is taken

abbrev TakesFirst : Op → Type 0
TakesFirst o = (cs : List ArgumentConvention) (a : Operand) (os : List Operand)
    → list_any (is_of a.value) (taken_each (a ∷ os) (roles_for (roles_of o) cs (length (a ∷ os)))) ≡ true

itself : (v : ValueId) (rest : Bool) → ((v.0 == v.0) || rest) ≡ true
itself v rest = ap (λ b. b || rest) (eq-eqb v.0 v.0 refl)

renaming_takes : (o : Op) → renames o ≡ true → TakesFirst o
renaming_takes op.CopyValue e cs a os = itself a.value _
renaming_takes op.MoveValue e cs a os = itself a.value _
renaming_takes op.BeginBorrow e cs a os = itself a.value _
renaming_takes _ e cs a os = absurd (cc)

switch_takes : TakesFirst op.SwitchEnum
switch_takes cs a os = itself a.value _

first_taken : (x : Inst) (w : ValueId) → TakesFirst x.op → first_value x ≡ Some w → list_any (is_of w) (taken_by x) ≡ true
first_taken x w takes e = at x.operands e
  where
    at : (os : List Operand) → option_map value_of (slice_get os 0) ≡ Some w
        → list_any (is_of w) (taken_each os (roles_for (roles_of x.op) (conventions_in x) (length os))) ≡ true
    at [] h = absurd (none-some w h)
    at (a ∷ os) h =
        subst (λ v. list_any (is_of v) (taken_each (a ∷ os) (roles_for (roles_of x.op) (conventions_in x) (length (a ∷ os)))) ≡ true)
        (same_Some a.value w h) (takes (conventions_in x) a os)

module _ (m : Module) (n : ℕ) (f : Function) (a : IsAcceptedBody m n f) (v w : ValueId) (named : renamed_from (renamings_of f) v ≡ Some w) where
  abbrev TakesIt : Item → Type 0
  TakesIt i = list_any (is_of w) (item_taken f i) ≡ true

  sound : SoundFunction m f
  sound = sound_function m a.verified.numbered a.verified.accepted.types.typed n f a.body.there

  -- one of values that have names of these
  name_of : (names vs : List ValueId) → Each (IsNamedBy f (counted m n f a) names) vs → has vs v.0 ≡ true → slice_get names 0 ≡ Some w
  name_of names vs h among =
      let x = picked (λ (u : ValueId). u.0 == v.0) (IsNamedBy f (counted m n f a) names) vs h among in
      sym x.2 ∙ ap (renamed_from (renamings_of f)) (same_value x.0 v (eqb-true x.0.0 v.0 x.1)) ∙ named

  by_inst : (p : PointId) (x : Inst) → inst_at f p ≡ Some x → has x.results v.0 ≡ true → list_any (is_of w) (taken_by x) ≡ true
  by_inst p x there among =
      at (renames x.op) refl (name_of (names_in x) x.results (results_named f (counted m n f a) p.block.0 p.index x ((typed m n f a).inside p x there).1) among)
    where
      at : (b : Bool) → renames x.op ≡ b → slice_get (cond (renames x.op) (map value_of x.operands) []) 0 ≡ Some w → list_any (is_of w) (taken_by x) ≡ true
      at true is e =
          first_taken x w (renaming_takes x.op is)
          (sym (slice_get-map value_of x.operands 0) ∙ ap (λ b. slice_get (cond b (map value_of x.operands) []) 0) (sym is) ∙ e)
      at false is e = absurd (none-some w (ap (λ b. slice_get (cond b (map value_of x.operands) []) 0) (sym is) ∙ e))

  -- the switch whose default goes to the block
  switched : (b : ℕ) → slice_get (default_operand (switch_to f b)) 0 ≡ Some w → (s : Switched) × (switch_to f b ≡ Some s) × (s.operand ≡ w)
  switched b e = at (switch_to f b) refl e
    where
      at : (o : Option Switched) → switch_to f b ≡ o → slice_get (default_operand o) 0 ≡ Some w → (s : Switched) × (switch_to f b ≡ Some s) × (s.operand ≡ w)
      at None is h = absurd (none-some w h)
      at (Some s) is h = (s, is, by s.is_default h)
        where
          by : (d : Bool) → slice_get (cond d (s.operand ∷ []) []) 0 ≡ Some w → s.operand ≡ w
          by true g = same_Some s.operand w g
          by false g = absurd (none-some w g)

  by_edge : (e : EdgeId) (b : Block) (y : Edge) → slice_get f.blocks e.block.0 ≡ Some b → slice_get b.terminator.edges e.index ≡ Some y
      → has (map arg_value (args_of f y.block.0)) v.0 ≡ true → list_any (is_of w) (taken_by b.terminator) ≡ true
  by_edge e b y is there among =
      let s = switched y.block.0 (name_of (default_operand (switch_to f y.block.0)) (map arg_value (args_of f y.block.0)) (args_named f (counted m n f a) y.block.0) among) in
      let x : SwitchFrom f y.block.0 s.0 = switch_from f y.block.0 s.0 s.1 in
      let to : x.edge.block.0 ≡ y.block.0 = eqb-true x.edge.block.0 y.block.0 x.goes in
      let one = lone m f sound x.place e.block.0 x.index e.index x.from b x.edge y x.is_block x.is_edge x.is_switch is there (eq-eqb y.block.0 x.edge.block.0 (sym to)) in
      let switch : b.terminator.op ≡ op.SwitchEnum = ap (λ (c : Block). c.terminator.op) (sym one.0) ∙ x.is_switch in
      first_taken b.terminator w (subst TakesFirst (sym switch) switch_takes)
      (ap (λ (c : Block). first_value c.terminator) (sym one.0) ∙ x.operand ∙ ap (λ (u : ValueId). Some u) s.2)

  taken_at : (i : Item) → makes f v i ≡ true → TakesIt i
  taken_at items.Entry made =
      absurd (none-some w (ap (λ vs. slice_get vs 0) (sym (entry_kept m f sound))
      ∙ name_of (default_operand (switch_to f 0)) (map arg_value (args_of f 0)) (args_named f (counted m n f a) 0) made))
  taken_at (items.Inst p) made = at (inst_at f p) refl made
    where
      at : (o : Option Inst) → inst_at f p ≡ o → has (results_in o ++ []) v.0 ≡ true → list_any (is_of w) (taken_in o ++ []) ≡ true
      at None e h = absurd (false≢true h)
      at (Some x) e h =
          ap (list_any (is_of w)) (append-nil (taken_by x)) ∙ by_inst p x e (ap (λ vs. has vs v.0) (sym (append-nil x.results)) ∙ h)
  taken_at (items.Edge e) made = at (slice_get f.blocks e.block.0) refl made
    where
      at : (o : Option Block) → slice_get f.blocks e.block.0 ≡ o → has (map arg_value (args_behind f (edge_in (terminator_in o) e.index))) v.0 ≡ true
          → list_any (is_of w) (taken_in (terminator_in o) ++ taken_along_in (edge_in (terminator_in o) e.index)) ≡ true
      at None is h = absurd (false≢true h)
      at (Some b) is h = along (slice_get b.terminator.edges e.index) refl h
        where
          along : (o : Option Edge) → slice_get b.terminator.edges e.index ≡ o → has (map arg_value (args_behind f o)) v.0 ≡ true
              → list_any (is_of w) (taken_by b.terminator ++ taken_along_in o) ≡ true
          along None there g = absurd (false≢true g)
          along (Some y) there g =
              list_any-append (is_of w) (taken_by b.terminator) (taken_along_in (Some y))
              ∙ ap (λ c. c || list_any (is_of w) (taken_along_in (Some y))) (by_edge e b y is there g)
  taken_at (items.Exit p) made = absurd (false≢true made)

pub names_taken : AreNamesTaken
names_taken m n f a i v w is made named = taken_at m n f a v w named i made
