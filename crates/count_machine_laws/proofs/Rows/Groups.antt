-- Structs, tuples and enums: their leaves are those of their members side by side, or a tag with those of the payload.
use Rattle.std.proofs.Common.{◌≡◌, ◌∙◌, ◌++◌, ℕ, List, [], ◌∷◌, true, Some, map, refl, sym, ap}
use Rattle.std.proofs.lemmas.Bool.{and_from}
use Rattle.std.proofs.lemmas.Option.{same_Some}
use Rattle.std.specs.Prelude.{drop, slice_get, take}
use Rattle.std.specs.List.{flat_map}
use Rattle.count_machine_model.specs.holder_model.Data.{Datum, ValueOf, values_of, with_first}
use Rattle.count_machine_model.specs.holder_model.Effects as effects
use Rattle.count_machine_model.specs.holder_model.Effects.{effect_of, gives_member, part_number, the_value, with_some}
use Rattle.count_machine_model.specs.holder_model.ModuleShapes.{shapes_of}
use Rattle.count_machine_model.specs.holder_model.declared.row_effect.RowEffect.TheVariants as row
use Rattle.count_machine_model.specs.MachineSteps.Operands.{contents}
use Rattle.count_machine_model.specs.MachineSteps.Rows.{value_of}
use Rattle.count_machine_model.specs.MachineSteps.Views.{MachineView}
use Rattle.count_machine_model.specs.declared.machine_steps.frame.Frame.{Frame}
use Rattle.count_machine_model.specs.ReadyCode.Layout.{leaves_in, local, size_of}
use Rattle.count_machine_model.specs.ReadyCode.ReadyOps.{leaf_offset, operands_of}
use Rattle.count_machine_model.specs.declared.ready_code.op.ReadyOp.TheVariants as op
use Rattle.count_machine_model.specs.holder_model.RunTyping.Forms.{OfValue, form_of}
use Rattle.count_machine_model.specs.holder_model.RunTyping.RowForms.{IsGroup}
use Rattle.holder_model_values.specs.RunValues.inner.Fits.{fit_each}
use Rattle.holder_model_values.specs.RunValues.Leaves.{leaves_of}
use Rattle.holder_model_values.specs.RunValues.Memory.{Memory}
use Rattle.holder_model_values.specs.RunValues.Shapes.{Shape, member_shapes}
use Rattle.holder_model_values.specs.RunValues.Values.{Value, grouped}
use Rattle.sil_ast.specs.declared.function.Function.{Function}
use Rattle.sil_ast.specs.declared.module.Module.{Module}
use Rattle.sil_ast.specs.declared.place.ValueId.{ValueId}
use Rattle.sil_types_declarations.specs.TypeDefinitions.Declarations.{declarations_of}
use Rattle.holder_model_values.specs.ValueParts.inner.LeafLists.{leaf_lists}
use Rattle.holder_model_values.specs.ValueParts.inner.Suits.{ClassTest, suits}
use Rattle.holder_model_values.proofs.ValueParts.Groups.{member_leaves, struct_leaves, struct_suits, tuple_leaves, tuple_suits}
use Rattle.holder_model_values.proofs.ValueParts.Members.{has_member}
use Rattle.count_machine_laws.proofs.Ending.{alike_by}
use Rattle.count_machine_laws.proofs.FrameSteps.{StandsAt}
use Rattle.count_machine_laws.proofs.Objects.{is_of_class}
use Rattle.count_machine_laws.proofs.Operands.{AllRead, more, none, read_value}
use Rattle.count_machine_laws.proofs.Rows.Effects.{RowAlike, Runs, d, forms_by, performed, results_of, row_by, values}
use Rattle.count_machine_laws.proofs.Rows.Gives.{first_form, gives_value, one_of, one_read, other_forms}
use Rattle.count_machine_laws.proofs.Rows.Shapes.{same_value_form}
use Rattle.count_machine_laws.proofs.Slots.{Made}
use Rattle.count_machine_laws.proofs.Tasks.{Beginning}

-- groups

group_suits : (test : ClassTest) (s : Shape) (ss : List Shape) → IsGroup s ss → (vs : List Value) → fit_each (map (suits test) ss) vs ≡ true → suits test s (grouped vs) ≡ true
group_suits test _ _ (IsGroup.struct name ss) vs h = struct_suits test name ss vs ∙ h
group_suits test _ _ (IsGroup.tuple ss) vs h = tuple_suits test ss vs ∙ h

group_leaves : (s : Shape) (ss : List Shape) → IsGroup s ss → (vs : List Value) → leaves_of s (grouped vs) ≡ flat_map (λ ls. ls) (leaf_lists ss vs)
group_leaves _ _ (IsGroup.struct name ss) vs = struct_leaves name ss vs
group_leaves _ _ (IsGroup.tuple ss) vs = tuple_leaves ss vs

values_listed : (vs : List Value) → values_of (map ValueOf vs) ≡ Some vs
values_listed [] = refl
values_listed (v ∷ vs) = ap (with_first (Some v)) (values_listed vs)

listed_locals : (m : Module) (f : Function) (vs : List ValueId) → map value_of (map (local (declarations_of m) f) vs) ≡ vs
listed_locals m f [] = refl
listed_locals m f (v ∷ vs) = ap (λ ws. v ∷ ws) (listed_locals m f vs)

-- values that are members, as the run reads them and as the machine has them
record MembersRead (m : Module) (mem : Memory) (st : MachineView) (f : Function) (mf : Frame) (ss : List Shape) (vs : List ValueId) (xs : List Datum) : Type 0 where
  members : List Value
  read : xs ≡ map ValueOf members
  fit : fit_each (map (suits (is_of_class m mem)) ss) members ≡ true
  leaves : flat_map (contents st mf) (map (local (declarations_of m) f) vs) ≡ flat_map (λ ls. ls) (leaf_lists ss members)

module _ {m : Module} {made : List Made} {mem : Memory} {st : MachineView} (f : Function) (mf : Frame) where
  members_read : (vs : List ValueId) (xs : List Datum) (ss : List Shape) → map (form_of (declarations_of m) f) vs ≡ map OfValue ss → AllRead m made mem st f mf vs xs
      → MembersRead m mem st f mf ss vs xs
  members_read _ _ [] forms none = record { members = []; read = refl; fit = refl; leaves = refl }
  members_read _ _ (s ∷ ss) forms none = absurd (cc)
  members_read _ _ [] forms (more v x vs xs is all) = absurd (cc)
  members_read _ _ (s ∷ ss) forms (more v x vs xs is all) =
      let first = read_value is s (first_form (form_of (declarations_of m) f) (v ∷ vs) v vs (OfValue s) (map OfValue ss) refl forms) in
      let others = members_read vs xs ss (other_forms (form_of (declarations_of m) f) (v ∷ vs) v vs (OfValue s) (map OfValue ss) refl forms) all in
      record {
        members = first.0 ∷ others.members;
        read = ap (λ y. y ∷ xs) first.1 ∙ ap (λ ys. ValueOf first.0 ∷ ys) others.read;
        fit = and_from (suits (is_of_class m mem) s first.0) (fit_each (map (suits (is_of_class m mem)) ss) others.members) first.2 others.fit;
        leaves =
            ap (λ ls. ls ++ flat_map (contents st mf) (map (local (declarations_of m) f) vs)) first.3 ∙ ap (λ ls. leaves_of s first.0 ++ ls) others.leaves;
      }

module _ {m : Module} {entry : Beginning} (r : Runs m entry) where
  pub group_alike : (u : ValueId) → effect_of r.i.op ≡ row.Groups → r.i.results ≡ u ∷ []
      → StandsAt m r.f r.lf r.i (op.Group (map (local (d r) r.f) (operands_of r.i)) (local (d r) r.f u))
      → RowAlike r (op.Group (map (local (d r) r.f) (operands_of r.i)) (local (d r) r.f u))
  group_alike u is results stands =
      let forms = forms_by r stands row.Groups is in
      let form = first_form (form_of (d r) r.f) r.i.results u [] (OfValue forms.0) [] results forms.4 in
      row_by r stands row.Groups is (listed_locals m r.f (operands_of r.i))
      (λ xs all.
      let read = members_read r.f r.mf (operands_of r.i) xs forms.1 forms.3 all in
      alike_by
      (ap (λ ys. performed r r.s (with_some (λ vs. effects.gives_value r.s.memory (grouped vs)) (values_of ys))) read.read
      ∙ ap (λ vs. performed r r.s (with_some (λ vs. effects.gives_value r.s.memory (grouped vs)) vs)) (values_listed read.members))
      refl
      (gives_value r stands.inst u results (one_of r.f r.i.results u [] results (results_of r stands row.Groups is)) forms.0 form (grouped read.members)
      (group_suits (is_of_class m r.s.memory) forms.0 forms.1 forms.2 read.members read.fit)
      (flat_map (contents r.st r.mf) (map (local (d r) r.f) (operands_of r.i))) (read.leaves ∙ sym (group_leaves forms.0 forms.1 forms.2 read.members))))

  pub member_alike : (v u : ValueId) (s : Shape) (k : ℕ) → effect_of r.i.op ≡ row.GivesMember → operands_of r.i ≡ v ∷ [] → r.i.results ≡ u ∷ [] → form_of (d r) r.f v ≡ OfValue s
      → part_number (d r) r.i ≡ Some k → StandsAt m r.f r.lf r.i (op.Member (local (d r) r.f v) (leaf_offset (member_shapes s) k) (local (d r) r.f u))
      → RowAlike r (op.Member (local (d r) r.f v) (leaf_offset (member_shapes s) k) (local (d r) r.f u))
  member_alike v u s k is operands results from at stands =
      let forms = forms_by r stands row.GivesMember is in
      let same : forms.0 ≡ s = same_value_form forms.0 s (sym (first_form (form_of (d r) r.f) (operands_of r.i) v [] (OfValue forms.0) [] operands forms.5) ∙ from) in
      let numbered : forms.2 ≡ k = same_Some forms.2 k (sym forms.3 ∙ at) in
      let part : slice_get (member_shapes s) k ≡ Some forms.1 = ap (λ t. slice_get (member_shapes t) k) (sym same) ∙ ap (slice_get (member_shapes forms.0)) (sym numbered) ∙ forms.4 in
      let form = first_form (form_of (d r) r.f) r.i.results u [] (OfValue forms.1) [] results forms.6 in
      row_by r stands row.GivesMember is (sym operands)
      (λ xs all.
      let one = one_read v xs operands all in
      let x = read_value one.2 s from in
      let has = has_member (is_of_class m r.s.memory) s forms.1 k x.0 part x.2 in
      alike_by
      (ap (λ ys. performed r r.s (the_value (d r) (shapes_of m) (values r) r.s.memory r.i (gives_member (d r) (shapes_of m) (values r) r.s.memory r.i (part_number (d r) r.i)) ys))
      (one.1 ∙ ap (λ y. y ∷ []) x.1)
      ∙ ap (λ n. performed r r.s (gives_member (d r) (shapes_of m) (values r) r.s.memory r.i n x.0)) at
      ∙ ap (λ y. performed r r.s (with_some (effects.gives_value r.s.memory) y)) has.1)
      refl
      (gives_value r stands.inst u results (one_of r.f r.i.results u [] results (results_of r stands row.GivesMember is)) forms.1 form has.0 has.2
      (take (local (d r) r.f u).size (drop (leaf_offset (member_shapes s) k) (contents r.st r.mf (local (d r) r.f v))))
      (ap (λ n. take n (drop (leaf_offset (member_shapes s) k) (contents r.st r.mf (local (d r) r.f v)))) (ap leaves_in form)
      ∙ ap (λ ls. take (size_of forms.1) (drop (leaf_offset (member_shapes s) k) ls)) x.3
      ∙ member_leaves (is_of_class m r.s.memory) s forms.1 k x.0 has.0 part x.2 has.1)))
