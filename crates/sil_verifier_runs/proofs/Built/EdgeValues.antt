-- What a terminator's item takes are values, which name whole objects alone.
use Rattle.std.proofs.Common.{◌≡◌, ◌⊎◌, inl, inr, ℕ, List, [], ◌∷◌, map, refl, sym, ap, subst, true, false, Option, Some, None}
use Rattle.std.specs.Prelude.{Contains}
use Rattle.std.proofs.lemmas.Bool.{false≢true}
use Rattle.std.proofs.lemmas.List.Elements.{Contains-append_cases}
use Rattle.instruction_table.specs.Forms.{ending_of, is_terminator}
use Rattle.instruction_table.specs.declared.entries.Ending.TheVariants as ending
use Rattle.instruction_table.specs.declared.op.Op.{Op}
use Rattle.instruction_table.specs.declared.op.Op.TheVariants as op
use Rattle.sil_verifier_frames.specs.holder_model.Data.{Datum, references_in}
use Rattle.sil_verifier_frames.specs.holder_model.Frames.{Frame, Operands}
use Rattle.sil_verifier_frames.specs.holder_model.States.{Task}
use Rattle.sil_verifier_frames.specs.memory_rules_accesses.Operations.{access_kind_of}
use Rattle.sil_verifier_frames.specs.sil_verifier_values.inner.Known.{IsAcceptedBody}
use Rattle.sil_verifier_frames.specs.holder_model.RunTyping.EndForms.{EndForms, operand_forms, value_in}
use Rattle.sil_verifier_frames.specs.holder_model.RunTyping.Forms.{form_of, forms_of, given_shape}
use Rattle.sil_verifier_frames.specs.holder_model.RunTyping.RowForms.{bit}
use Rattle.sil_verifier_frames.proofs.sil_verifier_values.Accepted.{typed}
use Rattle.sil_verifier_frames.proofs.sil_verifier_values.Counted.{nothing_in}
use Rattle.sil_cfg_items.specs.Items.{item_taken, taken_along_in, taken_in}
use Rattle.sil_cfg_items.specs.Parts.{item_edge, item_inst, terminator_of}
use Rattle.sil_cfg_items.specs.Roles.{consumed, taken_along, taken_by}
use Rattle.sil_cfg_items.specs.declared.taken.Taken.{Taken}
use Rattle.numbered_form.specs.Lists.{Each}
use Rattle.sil_verifier_frames.specs.holder_model_typing.OwnedRunTyping.inner.OwnedEnds.{OwnedEndForms}
use Rattle.numbered_form.proofs.PointChecks.Among.{Among, among_contained, contained_among, map_among}
use Rattle.holder_model_values.specs.RunValues.Memory.{Memory}
use Rattle.sil_ast.specs.declared.function.Function.{Function}
use Rattle.sil_ast.specs.declared.inst.Edge.{Edge}
use Rattle.sil_ast.specs.declared.inst.Inst.{Inst}
use Rattle.sil_ast.specs.declared.module.Module.{Module}
use Rattle.sil_cfg.specs.declared.item.Item.{Item}
use Rattle.sil_verifier_frames.proofs.Tracked.ConsumedValues.{IsValueForm, consumed_value, owned_typed}
use Rattle.sil_types_declarations.specs.TypeDefinitions.Declarations.{Declarations, declarations_of}
use Rattle.sil_verifier_frames.proofs.Typed.Data.{read_value}
use Rattle.sil_verifier_frames.specs.holder_model_laws.HolderLaws.inner.Whole.Whole.{NameWhole}
use Rattle.sil_verifier_runs.proofs.Built.EntriesNamed.{AreNamed}
use Rattle.sil_verifier_runs.proofs.Built.GivenValues.{ending_whole}
use Rattle.sil_verifier_runs.proofs.Built.ItemsDone.{makes_object}
use Rattle.sil_verifier_runs.proofs.Built.Reading.{named_datum}
use Rattle.sil_verifier_runs.proofs.Built.WholeOperands.{IsValueOf, Ready, all_whole}

-- a terminator makes no object
pub ending_makes : (o : Op) → is_terminator o ≡ true → makes_object (access_kind_of o) ≡ false
ending_makes op.AllocRef e = absurd (false≢true e)
ending_makes _ e = refl

-- ---- forms

-- the operands of a terminator that goes anywhere are values
pub ends_values : (d : Declarations) (f : Function) (x : Inst) → OwnedEndForms d f x → (ending_of x.op ≡ ending.Unreachable → ⊥) → Each IsValueForm (operand_forms d f x)
ends_values d f x (OwnedEndForms.also_lowered other (EndForms.branch e is none at forms)) goes =
    subst (λ os. Each IsValueForm (forms_of d f (map value_in os))) (sym none) tt
ends_values d f x (OwnedEndForms.also_lowered other (EndForms.branches set clear is operands first second a b)) goes =
    subst (Each IsValueForm) (sym operands) ((bit, refl), tt)
ends_values d f x (OwnedEndForms.also_lowered other (EndForms.cases s is operands is_enum all)) goes = subst (Each IsValueForm) (sym operands) ((s, refl), tt)
ends_values d f x (OwnedEndForms.also_lowered other (EndForms.returns is operands)) goes = subst (Each IsValueForm) (sym operands) ((given_shape d f, refl), tt)
ends_values d f x (OwnedEndForms.also_lowered other (EndForms.unreachable is)) goes = absurd (goes is)
ends_values d f x (OwnedEndForms.cases s is operands is_enum all) goes = subst (Each IsValueForm) (sym operands) ((s, refl), tt)

among_form : (d : Declarations) (f : Function) (ts : List Taken) → Each IsValueForm (forms_of d f (map (λ (t : Taken). t.value) ts)) → (t : Taken) → Among t ts
    → IsValueForm (form_of d f t.value)
among_form d f [] h t among = absurd among
among_form d f (u ∷ ts) h t (inl same) = subst (λ (z : Taken). IsValueForm (form_of d f z.value)) (sym same) h.0
among_form d f (u ∷ ts) h t (inr more) = among_form d f ts h.1 t more

module _ (m : Module) (n : ℕ) (f : Function) (a : IsAcceptedBody m n f) (b : ℕ) (x : Inst) (there : terminator_of f b ≡ Some x)
    (goes : ending_of x.op ≡ ending.Unreachable → ⊥) where
  abbrev d : Declarations
  d = declarations_of m

  terminator_values : (t : Taken) → Among t (taken_by x) → IsValueForm (form_of d f t.value)
  terminator_values t among =
      let function = (owned_typed m a.verified).functions n f a.body.there in
      among_form d f (taken_by x)
      (subst (λ vs. Each IsValueForm (forms_of d f vs)) (sym (function.ends_take b x there)) (ends_values d f x (function.ends b x there) goes)) t among

  along_values : (i : Item) → (t : Taken) → Contains (item_taken f i) t → (o : Option Edge) → Contains (taken_along_in o) t → IsValueForm (form_of d f t.value)
  along_values i t c None among = absurd (nothing_in t among)
  along_values i t c (Some e) among =
      let at = map_among consumed t e.args (among_contained t (taken_along e) among) in
      consumed_value m n f a i t c (ap (λ (z : Taken). z.role) at.2)

  pub item_values : (i : Item) → item_inst f i ≡ Some x → (t : Taken) → Contains (item_taken f i) t → IsValueForm (form_of d f t.value)
  item_values i is t c = by (Contains-append_cases (taken_in (item_inst f i)) (taken_along_in (item_edge f i)) t c)
    where
      by : Contains (taken_in (item_inst f i)) t ⊎ Contains (taken_along_in (item_edge f i)) t → IsValueForm (form_of d f t.value)
      by (inl among) = terminator_values t (among_contained t (taken_by x) (subst (λ o. Contains (taken_in o) t) is among))
      by (inr among) = along_values i t c (item_edge f i) among

module _ (m : Module) (memory : Memory) (rest : List (Task Frame)) (frame : Frame) (f : Function) (i : Item) (ops : Operands)
    (ready : Ready m memory rest frame f i ops) (b : ℕ) (x : Inst) (there : terminator_of f b ≡ Some x) (is : item_inst f i ≡ Some x)
    (goes : ending_of x.op ≡ ending.Unreachable → ⊥) where
  given_values : (ts : List Taken) (xs : List Datum) → AreNamed memory frame.entries ops.left ts xs → ((t : Taken) → Among t ts → Contains (item_taken f i) t)
      → Each IsValueOf xs
  given_values [] [] named within = tt
  given_values [] (y ∷ xs) named within = absurd named
  given_values (t ∷ ts) [] named within = tt
  given_values (t ∷ ts) (y ∷ xs) named within =
      let form = item_values m frame.function.0 f ready.doing.body b x there goes i is t (within t (inl refl)) in
      let v = read_value m ready.w (named_datum m ready.w f frame.entries ready.entries t.value y named.0.0) form.0 form.1 in
      ((v.0, v.1), given_values ts xs named.1 (λ u among. within u (inr among)))

  pub terminator_whole : Each (λ y. NameWhole memory (references_in y)) ops.given
  terminator_whole =
      all_whole m memory rest frame f i ops ready x is
      (ending_whole x.op ((typed m frame.function.0 f ready.doing.body).ends b x there).1.ends)
      (given_values (item_taken f i) ops.given ready.named (λ t among. contained_among t (item_taken f i) among))
