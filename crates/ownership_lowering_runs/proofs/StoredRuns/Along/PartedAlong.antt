-- A struct or tuple is taken apart: the lowered run extracts its members one by one.
use Rattle.std.specs.Prelude.{option_and_then, ◌++◌, slice_get, ◌==◌}
use Rattle.sil_ast.specs.declared.member.Member.{Member}
use Rattle.memory_rules_accesses.specs.Sources.{member_place}
use Rattle.sil_verifier_runs.specs.holder_model.Effects.{gives_value, Change, Makes, effect_of, unchanged, with_some}
use Rattle.ownership_lowering_laws.specs.ownership_lowering_model.Extracts.{element_extracts, extracts_elements, extracts_fields, field_extracts, members_of_struct}
use Rattle.sil_verifier_runs.specs.holder_model.LoweredRun.LowFrames.{put_all}
use Rattle.std.proofs.Common.{◌≡◌, ℕ, suc, ◌+◌, List, [], ◌∷◌, map, length, arith, refl, sym, ap, ◌∙◌, subst, false, Option, Some, Ok, ap₂, flat_map, option_to_list, set}
use Rattle.std.proofs.lemmas.Option.{same_Some}
use Rattle.numbered_form.specs.Lists.{Each}
use Rattle.sil_ast.specs.declared.function.Function.{Function}
use Rattle.sil_ast.specs.declared.inst.Inst.{Inst}
use Rattle.sil_ast.specs.declared.module.Module.{Module}
use Rattle.sil_ast.specs.declared.operands.Operand.{Operand}
use Rattle.sil_ast.specs.declared.place.ValueId.{ValueId}
use Rattle.sil_cfg.specs.declared.item.Item.TheVariants as item
use Rattle.sil_cfg_items.specs.Items.{item_defined}
use Rattle.sil_cfg_items.specs.Roles.{taken_by}
use Rattle.sil_types_declarations.specs.TypeDefinitions.Declarations.{Declarations, declarations_of}
use Rattle.holder_model_values.specs.RunValues.Values.{Value, members_of}
use Rattle.sil_verifier_runs.specs.holder_model.Data.{Datum, ValueOf}
use Rattle.sil_verifier_runs.specs.holder_model.Frames.{Entry, Frame, Operands, results_put}
use Rattle.sil_verifier_runs.specs.holder_model.HolderStates.{HolderState}
use Rattle.sil_verifier_runs.specs.holder_model.ModuleFacts.{facts_of}
use Rattle.sil_verifier_runs.specs.holder_model.ModuleShapes.{ModuleShapes, shapes_in, shapes_of}
use Rattle.sil_verifier_runs.specs.holder_model.Outcomes.{Numbers}
use Rattle.sil_verifier_runs.specs.holder_model.Standing.{stands_at}
use Rattle.sil_verifier_runs.specs.holder_model.States.{Task}
use Rattle.sil_verifier_runs.specs.holder_model.declared.row_effect.RowEffect.TheVariants as row
use Rattle.sil_verifier_runs.specs.holder_model.LoweredRun.LowEffects.{low_effect, stored_behind, stored_by}
use Rattle.sil_verifier_runs.specs.holder_model.LoweredRun.LowFrames as low_frames
use Rattle.sil_verifier_runs.specs.holder_model.LoweredRun.LowStepParts.{LowState, numbers_for, taken_value}
use Rattle.sil_verifier_runs.specs.ownership_kinds_origins.Renamings.{renames}
use Rattle.ownership_lowering_laws.specs.ownership_lowering_model.LoweredBlocks.{value_with}
use Rattle.ownership_lowering_laws.specs.ownership_lowering_model.LoweredInsts.{becomes_by, lowering_of}
use Rattle.ownership_lowering_laws.specs.ownership_lowering_model.Numbers.{renumbered_inst}
use Rattle.ownership_lowering_laws.specs.ownership_lowering_model.declared.lowering.Lowering.TheVariants as lowering
use Rattle.sil_verifier_runs.specs.holder_model_laws.HolderLaws.inner.Steps.Ways as holder
use Rattle.ownership_lowering_runs.specs.StoredRuns.inner.PlaceRows.{GoesAlong, LowGoes, StandsAt, stored_for}
use Rattle.ownership_lowering_runs.proofs.StoredRuns.RowSteps.{numbers_in_both}
use Rattle.ownership_lowering_runs.proofs.StoredRuns.RowsBehind.{PutsIn, begin, begins, behind_all, end, from, low_shapes, low_told, lowered_to, made, num, one_step, puts_in, same_numbers, stands}
use Rattle.ownership_lowering_runs.proofs.StoredRuns.RowsBehind.{waits}
use Rattle.ownership_lowering_runs.proofs.StoredRuns.StandsThere.{facts, one_value}
use Rattle.ownership_lowering_runs.proofs.StoredRuns.ValuesFor.{read_so, value_other}
use Rattle.holder_model_values.specs.RunValues.Shapes.{Shape}

module _ (m : Module) (bound : ℕ) (s : HolderState) (l : LowState) (frame : Frame) (rest : List (Task Frame)) (f : Function) (i : Inst) (ops : Operands)
    (x : StandsAt m s l frame rest f i ops) (o : Operand) (w : Value) (one : i.operands ≡ o ∷ []) (given : ops.given ≡ ValueOf w ∷ [])
    (row_is : effect_of i.op ≡ row.GivesMembers) (keeps : renames i.op ≡ false) where
  abbrev d : Declarations
  d = declarations_of m

  abbrev told : ModuleShapes
  told = low_told m bound s l frame rest f i ops x

  abbrev shapes : List Shape
  shapes = low_shapes m bound s l frame rest f i ops x

  abbrev number : ValueId → ValueId
  number v = num m bound s l frame rest f i ops x v

  -- the instruction gives the member under the number of the result
  pub record Extracts (j : Inst) (r : ValueId) (y : Value) : Type 0 where
    pub takes_it : map taken_value (taken_by j) ≡ o.value ∷ []
    pub gives_it : j.results ≡ r ∷ []
    pub eff : low_effect d told shapes l.memory (renumbered_inst number j) (ValueOf w ∷ []) ≡ Makes (record (unchanged l.memory) { results = ValueOf y ∷ [] })
    pub same : (ns : List Numbers) → stored_behind d told shapes l.memory (renumbered_inst number j) (ValueOf w ∷ []) ns ≡ ns

  abbrev pub AllExtract : List Inst → List ValueId → List Value → Type 0
  AllExtract [] [] [] = Unit {0}
  AllExtract [] [] (y ∷ ys) = ⊥
  AllExtract [] (r ∷ rs) ys = ⊥
  AllExtract (j ∷ js) [] ys = ⊥
  AllExtract (j ∷ js) (r ∷ rs) [] = ⊥
  AllExtract (j ∷ js) (r ∷ rs) (y ∷ ys) = Extracts j r y × AllExtract js rs ys

  abbrev pub IsOther : ValueId → Type 0
  IsOther r = ((number o.value).0 == (number r).0) ≡ false

  abbrev at_state : ℕ → List (Option Datum) → List Numbers → ℕ → LowState
  at_state n values ns retains = waits m bound s l frame rest f i ops x [] n values x.low.slots l.memory ns retains

  -- one of them
  extract_one : (last : LowState) (k n : ℕ) (values : List (Option Datum)) (j : Inst) (r : ValueId) (y : Value) → Extracts j r y → slice_get (made m bound s l frame rest f i ops x) k ≡ Some j
      → n ≡ begin m bound s l frame rest f i ops x + k → low_frames.value_at values (number o.value) ≡ Some (ValueOf w)
      → LowGoes m bound last (at_state (suc n) (set values (number r).0 (Some (ValueOf y))) l.numbers l.retains) → LowGoes m bound last (at_state n values l.numbers l.retains)
  extract_one last k n values j r y h there at under on =
      one_step m bound s l frame rest f i ops x n values x.low.slots l.memory l.numbers l.retains j (o.value ∷ []) (ValueOf w ∷ [])
      (record (unchanged l.memory) { results = ValueOf y ∷ [] }) x.low.slots (set values (number r).0 (Some (ValueOf y))) last
      (stands m bound s l frame rest f i ops x k n j there at) h.takes_it (read_so values (number o.value ∷ []) (ValueOf w ∷ []) (under, tt)) h.eff refl
      (ap (λ rs. put_all (map number rs) (ValueOf y ∷ []) values) h.gives_it) refl
      (subst (λ st. LowGoes m bound last st)
      (ap₂ (λ ns retains. at_state (suc n) (set values (number r).0 (Some (ValueOf y))) ns retains)
      (sym (ap (numbers_for l.memory) (h.same l.numbers) ∙ same_numbers m bound s l frame rest f i ops x)) (omega arith)) on)

  extract_all : (last : LowState) (js : List Inst) (rs : List ValueId) (ys : List Value) (k n : ℕ) (values values' : List (Option Datum)) → AllExtract js rs ys
      → ((a : ℕ) (j : Inst) → slice_get js a ≡ Some j → slice_get (made m bound s l frame rest f i ops x) (k + a) ≡ Some j)
      → n ≡ begin m bound s l frame rest f i ops x + k → low_frames.value_at values (number o.value) ≡ Some (ValueOf w) → Each IsOther rs
      → put_all (map number rs) (map ValueOf ys) values ≡ Some values' → LowGoes m bound last (at_state (n + length js) values' l.numbers l.retains)
      → LowGoes m bound last (at_state n values l.numbers l.retains)
  extract_all last [] [] [] k n values values' h there at under others put on =
      subst (λ st. LowGoes m bound last st) (ap₂ (λ a vs. at_state a vs l.numbers l.retains) (omega arith) (sym (same_Some values values' put))) on
  extract_all last [] [] (y ∷ ys) k n values values' h there at under others put on = absurd h
  extract_all last [] (r ∷ rs) ys k n values values' h there at under others put on = absurd h
  extract_all last (j ∷ js) [] ys k n values values' h there at under others put on = absurd h
  extract_all last (j ∷ js) (r ∷ rs) [] k n values values' h there at under others put on = absurd h
  extract_all last (j ∷ js) (r ∷ rs) (y ∷ ys) k n values values' h there at under others put on =
      extract_one last k n values j r y h.0 (ap (slice_get (made m bound s l frame rest f i ops x)) (omega arith) ∙ there 0 j refl) at under
      (extract_all last js rs ys (k + 1) (suc n) (set values (number r).0 (Some (ValueOf y))) values' h.1
      (λ a e is. ap (slice_get (made m bound s l frame rest f i ops x)) (omega arith) ∙ there (suc a) e is) (omega arith)
      (value_other values (number r) (number o.value) (ValueOf y) others.0 ∙ under) others.1 put
      (subst (λ a. LowGoes m bound last (at_state a values' l.numbers l.retains)) (one_more n (length js)) on))
    where
      one_more : (a b : ℕ) → a + suc b ≡ suc a + b
      one_more a b = omega arith

  -- the whole
  module _ (ys : List Value) (all : AllExtract (made m bound s l frame rest f i ops x) i.results ys) (others : Each IsOther i.results) (entries : List Entry)
      (put : results_put (facts m s l frame rest f i ops x) (item_defined f (item.Inst (stands_at f frame.trail))) (map ValueOf ys) ops.left ≡ Ok entries) where
    abbrev pub parted : Change
    parted = record (unchanged s.memory) { results = map ValueOf ys }

    puts : PutsIn m bound s l frame rest f i ops x i.results (map ValueOf ys) entries
    puts = puts_in m bound s l frame rest f i ops x i.results (map ValueOf ys) entries refl keeps put

    stored_row : stored_behind d (shapes_of m) (shapes_in (shapes_of m) frame.function) s.memory i ops.given l.numbers ≡ l.numbers
    stored_row = ap (λ z. stored_by d (shapes_of m) (shapes_in (shapes_of m) frame.function) s.memory i z ops.given l.numbers) row_is

    pub parted_along : GoesAlong m bound l
        (holder.moved m (facts_of m) bound s rest (from m bound s l frame rest f i ops x) (item.Inst (stands_at f frame.trail)) parted x.low.slots entries)
        (stored_for m s frame i ops.given parted l.numbers)
    parted_along =
        let last : LowState = at_state (end m bound s l frame rest f i ops x) puts.values l.numbers (l.retains + 0) in
        behind_all m bound s l frame rest f i ops x parted x.low.slots entries puts.values l.memory l.numbers (stored_for m s frame i ops.given parted l.numbers)
        (begins m bound s l frame rest f i ops x last
        (extract_all last (made m bound s l frame rest f i ops x) i.results ys 0 (begin m bound s l frame rest f i ops x) x.low.values puts.values all
        (λ a j is. ap (slice_get (made m bound s l frame rest f i ops x)) (omega arith) ∙ is) (omega arith)
        (one_value m s l frame rest f i ops x o w one given).under others puts.put
        (subst (λ st. LowGoes m bound last st)
        (ap₂ (λ n retains. at_state n puts.values l.numbers retains) (lowered_to m bound s l frame rest f i ops x).next (omega arith)) LowGoes.there)))
        puts.size puts.shown x.memory puts.parts x.full.1
        (sym (same_numbers m bound s l frame rest f i ops x) ∙ numbers_in_both s.memory l.memory x.memory l.numbers ∙ ap (numbers_for s.memory) (sym stored_row))

  -- ---- what extracts give

  abbrev member_at : ℕ → Option Value
  member_at k = option_and_then (λ ys. slice_get ys k) (members_of w)

  -- the members of a struct, by their names
  fields_extract : (ms : List Member) (rs : List ValueId) (ys : List Value) (k : ℕ) → length rs ≡ length ms → length ys ≡ length ms
      → ((a : ℕ) (named : Member) → slice_get ms a ≡ Some named → member_place d (Some named) ≡ Some (k + a))
      → ((a : ℕ) (y : Value) → slice_get ys a ≡ Some y → member_at (k + a) ≡ Some y) → AllExtract (field_extracts o ms rs ++ []) rs ys
  fields_extract [] [] [] k e g places members = tt
  fields_extract [] [] (y ∷ ys) k e g places members = absurd (omega arith)
  fields_extract [] (r ∷ rs) ys k e g places members = absurd (omega arith)
  fields_extract (named ∷ ms) [] ys k e g places members = absurd (omega arith)
  fields_extract (named ∷ ms) (r ∷ rs) [] k e g places members = absurd (omega arith)
  fields_extract (named ∷ ms) (r ∷ rs) (y ∷ ys) k e g places members = (
    record {
      takes_it = refl;
      gives_it = refl;
      eff = ap (λ n. with_some (gives_value l.memory) (option_and_then (λ n. member_at n) n)) (places 0 named refl)
          ∙ ap (with_some (gives_value l.memory)) (members 0 y refl);
      same = λ ns. refl;
    },
    fields_extract ms rs ys (k + 1) (omega arith) (omega arith)
        (λ a other is. places (suc a) other is ∙ ap Some (omega arith))
        (λ a z is. ap member_at (omega arith) ∙ members (suc a) z is),
  )

  -- the elements of a tuple, by their numbers
  elements_extract : (rs : List ValueId) (ys : List Value) (k : ℕ) → length ys ≡ length rs → ((a : ℕ) (y : Value) → slice_get ys a ≡ Some y → member_at (k + a) ≡ Some y)
      → AllExtract (element_extracts o k rs ++ []) rs ys
  elements_extract [] [] k e members = tt
  elements_extract [] (y ∷ ys) k e members = absurd (omega arith)
  elements_extract (r ∷ rs) [] k e members = absurd (omega arith)
  elements_extract (r ∷ rs) (y ∷ ys) k e members = (
    record {
      takes_it = refl;
      gives_it = refl;
      eff = ap (with_some (gives_value l.memory)) (ap member_at (omega arith) ∙ members 0 y refl);
      same = λ ns. refl;
    },
    elements_extract rs ys (k + 1) (omega arith) (λ a z is. ap member_at (omega arith) ∙ members (suc a) z is),
  )

  abbrev spare_of : ValueId
  spare_of = value_with (lowered_to m bound s l frame rest f i ops x).spare

  member_there : (ys : List Value) → members_of w ≡ Some ys → (a : ℕ) (y : Value) → slice_get ys a ≡ Some y → member_at (0 + a) ≡ Some y
  member_there ys e a y is = ap (λ n. member_at n) (omega arith) ∙ ap (option_and_then (λ zs. slice_get zs a)) e ∙ is

  pub struct_extracts : (ys : List Value) → members_of w ≡ Some ys → lowering_of i.op ≡ lowering.ExtractsFields
      → length i.results ≡ length (flat_map (members_of_struct d) (option_to_list o.ty)) → length ys ≡ length (flat_map (members_of_struct d) (option_to_list o.ty))
      → ((a : ℕ) (named : Member) → slice_get (flat_map (members_of_struct d) (option_to_list o.ty)) a ≡ Some named → member_place d (Some named) ≡ Some a)
      → AllExtract (made m bound s l frame rest f i ops x) i.results ys
  struct_extracts ys e extracts long size places =
      subst (λ js. AllExtract js i.results ys)
      (sym (ap (λ z. becomes_by d spare_of z i) extracts ∙ ap (flat_map (extracts_fields d i.results)) one))
      (fields_extract (flat_map (members_of_struct d) (option_to_list o.ty)) i.results ys 0 long size (λ a named is. places a named is ∙ ap Some (omega arith)) (member_there ys e))

  pub tuple_extracts : (ys : List Value) → members_of w ≡ Some ys → lowering_of i.op ≡ lowering.ExtractsElements → length ys ≡ length i.results
      → AllExtract (made m bound s l frame rest f i ops x) i.results ys
  tuple_extracts ys e extracts size =
      subst (λ js. AllExtract js i.results ys)
      (sym (ap (λ z. becomes_by d spare_of z i) extracts ∙ ap (flat_map (extracts_elements i.results)) one))
      (elements_extract i.results ys 0 size (member_there ys e))
