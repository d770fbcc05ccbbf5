-- An `apply` in both runs: a function with a body is entered, and one without a body is called for its event.
use Rattle.std.proofs.Common.{◌≡◌, ℕ, ℤ, ◌+◌, List, [], ◌∷◌, ◌++◌, length, map, refl, sym, ap, ◌∙◌, subst, Bool, true, false, Option, Some, None, Ok}
use Rattle.std.specs.Prelude.{nat_lt, option_and_then, slice_get}
use Rattle.std.proofs.lemmas.Bool.{false≢true, true≢false}
use Rattle.std.proofs.lemmas.Option.{none-some, same_Some}
use Rattle.instruction_table.specs.declared.op.Op.TheVariants as op
use Rattle.numbered_form.specs.Lists.{Each}
use Rattle.numbered_form.specs.Numbering as numbering
use Rattle.ownership_kinds_chains.specs.declared.ownership_chains.facts.Facts.{Facts}
use Rattle.sil_ast.specs.declared.function.Block.{Block}
use Rattle.sil_ast.specs.declared.function.Form.{Form}
use Rattle.sil_ast.specs.declared.function.Form.TheVariants as form
use Rattle.sil_ast.specs.declared.function.Function.{Function}
use Rattle.sil_ast.specs.declared.inst.Inst.{Inst}
use Rattle.sil_ast.specs.declared.module.Module.{Module}
use Rattle.sil_ast.specs.declared.place.FuncId.{FuncId}
use Rattle.sil_ast.specs.declared.place.PointId.{PointId}
use Rattle.sil_ast.specs.declared.place.ValueId.{ValueId}
use Rattle.sil_cfg.specs.Items.{IsItem}
use Rattle.sil_cfg.specs.declared.item.Item.TheVariants as item
use Rattle.sil_cfg_items.specs.Items.{item_defined, item_taken}
use Rattle.sil_cfg_items.specs.Parts.{inst_at}
use Rattle.sil_cfg_items.specs.declared.taken.Taken.{Taken}
use Rattle.sil_types_declarations.specs.TypeDefinitions.Declarations.{Declarations, declarations_of}
use Rattle.holder_model_values.specs.RunValues.Shapes.{Shape}
use Rattle.holder_model_values.specs.RunValues.Values as value
use Rattle.holder_model_values.specs.RunValues.Values.{Value, integer_of}
use Rattle.sil_verifier_runs.specs.sil_verifier_trails.RunTrails.inner.RunTrails.{IsTurnedTrail}
use Rattle.sil_verifier_runs.specs.holder_model.declared.event.Event.TheVariants as event
use Rattle.sil_verifier_runs.specs.holder_model.declared.row_effect.RowEffect.TheVariants as row
use Rattle.sil_verifier_runs.specs.holder_model.Calling.{are_as_before, as_argument, handed_over}
use Rattle.sil_verifier_runs.specs.holder_model.Data.{AddressOf, Datum, FunctionOf, ValueOf, all_of, as_function, values_of}
use Rattle.sil_verifier_runs.specs.holder_model.Effects as effects
use Rattle.sil_verifier_runs.specs.holder_model.Effects.{Effect, effect_by, effect_of, unchanged}
use Rattle.sil_verifier_runs.specs.holder_model.Faults.{HolderFault, PlaceNotAsAsked, WrongShape}
use Rattle.sil_verifier_runs.specs.holder_model.Frames.{Frame, LentPlace, Operands, has_any, operands_of}
use Rattle.sil_verifier_runs.specs.holder_model.HolderStates.{HolderNext, HolderState}
use Rattle.sil_verifier_runs.specs.holder_model.MemoryEffects as holder_effects
use Rattle.sil_verifier_runs.specs.holder_model.ModuleFacts.{facts_of, facts_told}
use Rattle.sil_verifier_runs.specs.holder_model.ModuleShapes.{ModuleShapes, shapes_in, shapes_of}
use Rattle.sil_verifier_runs.specs.holder_model.Standing.{stands_at}
use Rattle.sil_verifier_runs.specs.holder_model.States.{Ends, OutOfTurns, Runs, Task}
use Rattle.sil_verifier_runs.specs.holder_model.Steps as holder_run
use Rattle.sil_verifier_runs.specs.holder_model.LoweredRun.LowEffects as low_effects
use Rattle.sil_verifier_runs.specs.holder_model.LoweredRun.LowEffects.{low_effect, stored_by}
use Rattle.sil_verifier_runs.specs.holder_model.LoweredRun.LowFrames.{LowFrame, read_all}
use Rattle.sil_verifier_runs.specs.holder_model.LoweredRun.LowStepParts.{LowNext, LowState, values_taken}
use Rattle.sil_verifier_runs.specs.holder_model.LoweredRun.LowSteps as steps
use Rattle.sil_verifier_runs.specs.ownership_kinds_origins.Renamings.{renames, renamings_of}
use Rattle.ownership_lowering_laws.specs.ownership_lowering_model.LoweredBlocks.{blocks_become}
use Rattle.ownership_lowering_laws.specs.ownership_lowering_model.LoweredInsts.{lowering_of}
use Rattle.ownership_lowering_laws.specs.ownership_lowering_model.LoweredModules.{lowered, lowered_body, lowered_by, lowered_function}
use Rattle.ownership_lowering_laws.specs.ownership_lowering_model.Numbers.{new_number, numbering_of, renumbered, renumbered_inst}
use Rattle.ownership_lowering_laws.specs.ownership_lowering_model.declared.lowering.Lowering.TheVariants as lowering
use Rattle.sil_verifier_runs.specs.holder_model_laws.HolderLaws.inner.Steps.Ways as holder
use Rattle.sil_verifier_runs.specs.holder_model_laws.LoweredSteps.inner.LowWays as ways
use Rattle.ownership_lowering_runs.specs.StoredRuns.inner.Along.{AreTotalsFor, IsNextAlong, IsNoFault}
use Rattle.ownership_lowering_runs.specs.StoredRuns.inner.CallsAlong.{AreCallsAlong, CallsRight, HandsRight, lent_in}
use Rattle.ownership_lowering_runs.specs.StoredRuns.inner.Entering.{HandsOver}
use Rattle.ownership_lowering_runs.specs.StoredRuns.inner.Frames.{AreGivenPartsFull, AreTasksFor, HasFullParts, IsFrameAt, IsTaskFor}
use Rattle.ownership_lowering_runs.specs.StoredRuns.inner.Lowering.{IsOwnName, LowersSo}
use Rattle.ownership_lowering_runs.specs.StoredRuns.inner.Memories.{IsMemoryFor}
use Rattle.ownership_lowering_runs.specs.StoredRuns.inner.Names.{lowered_number}
use Rattle.ownership_lowering_runs.specs.StoredRuns.inner.Runs.{IsEndingFor}
use Rattle.ownership_lowering_runs.proofs.StoredRuns.Entering.{are_entered}
use Rattle.ownership_lowering_runs.proofs.StoredRuns.Along.GoesAlong.{goes_along, parts_full, puts_own}
use Rattle.ownership_lowering_runs.proofs.StoredRuns.HandedOver.{addresses_for, arguments_for, as_many_read, handed_for, parts_full_for, values_read}
use Rattle.ownership_lowering_runs.proofs.StoredRuns.Lowered.LoweredCode.{mapped_at}
use Rattle.ownership_lowering_runs.proofs.StoredRuns.Reading.{AreReadAs, AreReadSo, Like, defines_there, like_exact, taken_read}
use Rattle.ownership_lowering_runs.proofs.StoredRuns.StandsStaying.{behind_at, defines_same, low_here, takes_same}
use Rattle.ownership_lowering_runs.proofs.StoredRuns.StayingSteps.{function_there}
use Rattle.ownership_lowering_runs.proofs.StoredRuns.ValuesFor.{AreTakenSo, operands_given}

-- ---- bodies stay bodies

module _ (d : Declarations) (f : Function) where
  abbrev lowered_from : ℕ → List Block → List Block
  lowered_from n bs = renumbered (new_number (numbering_of d f)) (blocks_become d (renamings_of f) n bs)

  some_stay : (bs : List Block) (n : ℕ) → has_any bs ≡ true → has_any (lowered_from n bs) ≡ true
  some_stay [] n h = absurd (false≢true h)
  some_stay (b ∷ bs) n h = refl

  none_stay : (bs : List Block) (n : ℕ) → has_any bs ≡ false → has_any (lowered_from n bs) ≡ false
  none_stay [] n h = refl
  none_stay (b ∷ bs) n h = absurd (true≢false h)

  body_stays : has_any f.blocks ≡ true → has_any (lowered_body d f).blocks ≡ true
  body_stays e = some_stay f.blocks (length (numbering.values_of f.blocks)) e

  no_body_stays : has_any f.blocks ≡ false → has_any (lowered_function d f).blocks ≡ false
  no_body_stays e = by f.form
    where
      by : (x : Form) → has_any (lowered_by x d f).blocks ≡ false
      by form.Ossa = none_stay f.blocks (length (numbering.values_of f.blocks)) e
      by form.Lowered = e
      by form.External = e

module _ (m : Module) (bound : ℕ) (s : HolderState) (l : LowState) (frame : Frame) (rest : List (Task Frame)) (f : Function)
    (low : LowFrame) (lrest : List (Task LowFrame)) (i : Inst) (ops : Operands)
    (totals : AreTotalsFor s l) (memory : IsMemoryFor s.memory l.memory) (size : length l.numbers ≡ length s.memory.objects)
    (there : slice_get m.functions frame.function.0 ≡ Some f) (lowers : LowersSo m frame.function f) (frames : IsFrameAt (declarations_of m) f frame low)
    (rest_for : AreTasksFor m rest lrest) (full : Each (HasFullParts m l.memory) (Runs low ∷ lrest))
    (here : inst_at f (stands_at f frame.trail) ≡ Some i) (apply : i.op ≡ op.Apply)
    (is_item : IsItem f (item.Inst (stands_at f frame.trail))) (trail : IsTurnedTrail f (item.Inst (stands_at f frame.trail) ∷ frame.trail))
    (found : operands_of (facts_told (facts_of m) frame.function) s.memory frame.entries (item_taken f (item.Inst (stands_at f frame.trail))) ≡ Ok ops) where
  abbrev d : Declarations
  d = declarations_of m

  abbrev low_told : ModuleShapes
  low_told = shapes_of (lowered m)

  abbrev lf : Function
  lf = lowered_body d f

  abbrev number : ValueId → ValueId
  number v = lowered_number d f v

  abbrev facts : ValueId → Option Facts
  facts v = facts_told (facts_of m) frame.function v

  abbrev p : PointId
  p = stands_at f frame.trail

  abbrev j : Inst
  j = renumbered_inst number i

  stays : lowering_of i.op ≡ lowering.Stays
  stays = ap lowering_of apply

  keeps : renames i.op ≡ false
  keeps = ap renames apply

  row_is : effect_of i.op ≡ row.CallsFunction
  row_is = ap effect_of apply

  taken_so : AreTakenSo facts s.memory frame.entries (item_taken f (item.Inst p)) ops
  taken_so = operands_given facts s.memory frame.entries (item_taken f (item.Inst p)) ops found

  reads : AreReadSo d f lowers.named low.values (item_taken f (item.Inst p)) ops.given
  reads =
      taken_read d f lowers.named low.values frame.trail s.memory facts frame.entries (item_taken f (item.Inst p)) ops.given frames.values
      (lowers.taken (item.Inst p) is_item) (lowers.current frame.trail (item.Inst p) trail) taken_so.given

  low_j : inst_at lf low.at ≡ Some j
  low_j = low_here d f p i here stays low.at frames.at

  low_read : read_all low.values (values_taken lf (item.Inst low.at)) ≡ Ok reads.ys
  low_read = ap (read_all low.values) (takes_same d f p i here stays low.at frames.at) ∙ reads.read

  abbrev left : Frame
  left = record frame { entries = ops.left }

  left_frames : IsFrameAt d f left low
  left_frames = record {
    function = frames.function;
    at = frames.at;
    slots = frames.slots;
    size = frames.size;
    values = λ v x h ok. frames.values v x (taken_so.stays v x h) ok;
  }

  given_parts : AreGivenPartsFull d f low.values l.memory
  given_parts = parts_full m bound s l totals memory size left rest f lowers there low lrest left_frames rest_for full

  -- ---- what is called

  holder_effect : (xs : List Datum) → holder_effects.effect d (shapes_of m) (shapes_in (shapes_of m) frame.function) s.memory i xs
      ≡ effects.calls d (shapes_of m) (shapes_in (shapes_of m) frame.function) s.memory i xs
  holder_effect xs =
      ap (λ r. effect_by d (shapes_of m) (shapes_in (shapes_of m) frame.function) s.memory i
      (holder_effects.at_places d (shapes_of m) (shapes_in (shapes_of m) frame.function) s.memory i) r xs) row_is

  abbrev low_values : List Shape
  low_values = shapes_in low_told low.function

  low_calls : (xs : List Datum) → low_effect d low_told low_values l.memory j xs ≡ effects.calls d low_told low_values l.memory j xs
  low_calls xs =
      ap (λ r. low_effects.unless_dead d low_told low_values l.memory j (low_effects.operated_on d low_told low_values l.memory j r xs)
      (effect_by d low_told low_values l.memory j (low_effects.at_places d low_told low_values l.memory j) r xs)) row_is

  abbrev named : LowState
  named = steps.with_names (lowered m) low_told bound l low j reads.ys

  same_numbers : named.numbers ≡ l.numbers
  same_numbers = ap (λ r. stored_by d low_told low_values l.memory j r reads.ys l.numbers) row_is

  pub record LowActs (next : HolderNext) : Type 0 where
    pub low_next : LowNext
    pub way : ways.Acts (lowered m) low_told bound l lrest low lf low_next
    pub for : IsNextAlong m l.numbers next low_next

  -- the function and the arguments among the operands
  record CallsSo (g : FuncId) (args : List Datum) : Type 0 where
    args' : List Datum
    taken : Taken
    others : List Taken
    taken_are : item_taken f (item.Inst p) ≡ taken ∷ others
    like : AreReadAs d f lowers.named low.values others args args'
    calls : low_effect d low_told low_values l.memory j reads.ys ≡ effects.Calls g args'

  function_is : (z : Datum) (g : FuncId) → as_function z ≡ Some g → z ≡ FunctionOf g
  function_is (ValueOf v) g e = absurd (none-some g e)
  function_is (AddressOf q) g e = absurd (none-some g e)
  function_is (FunctionOf h) g e = ap FunctionOf (same_Some h g e)

  calls_parts : (g : FuncId) (args : List Datum) (o : Option FuncId) (xs : List Datum) → ◌≡◌ {A = Effect HolderFault} (effects.with_some (λ h. effects.Calls h xs) o) (effects.Calls g args)
      → (o ≡ Some g) × (xs ≡ args)
  calls_parts g args None xs e = absurd (cc)
  calls_parts g args (Some h) xs e = (cc, cc)

  calls_so : (g : FuncId) (args : List Datum) (ts : List Taken) (xs ys : List Datum) → item_taken f (item.Inst p) ≡ ts → reads.ys ≡ ys
      → AreReadAs d f lowers.named low.values ts xs ys
      → ◌≡◌ {A = Effect HolderFault} (effects.calls d (shapes_of m) (shapes_in (shapes_of m) frame.function) s.memory i xs) (effects.Calls g args) → CallsSo g args
  calls_so g args ts [] ys taken read like e = absurd (cc)
  calls_so g args [] (x ∷ xs) ys taken read like e = absurd like
  calls_so g args (t ∷ ts) (x ∷ xs) [] taken read like e = absurd like
  calls_so g args (t ∷ ts) (x ∷ xs) (y ∷ ys) taken read like e =
      let parts = calls_parts g args (as_function x) xs e in
      let is : x ≡ FunctionOf g = function_is x g parts.0 in
      let same : y ≡ FunctionOf g = like_exact d f lowers.named t.value (FunctionOf g) y refl (subst (λ z. Like d f lowers.named t.value z y) is like.0.1) in
      record {
        args' = ys;
        taken = t;
        others = ts;
        taken_are = taken;
        like = subst (λ zs. AreReadAs d f lowers.named low.values ts zs ys) parts.1 like.1;
        calls = low_calls reads.ys ∙ ap (effects.calls d low_told low_values l.memory j) (read ∙ ap (λ z. z ∷ ys) same);
      }

  module _ (right : CallsRight m bound s frame f i ops) where
    module _ (g : FuncId) (args : List Datum) (is : holder_run.effect_in m (facts_of m) bound s frame i ops.given ≡ effects.Calls g args) where
      so : CallsSo g args
      so = calls_so g args (item_taken f (item.Inst p)) ops.given reads.ys refl refl reads.like (sym (holder_effect ops.given) ∙ is)

      -- a function with a body
      module _ (callee : Function) (there_g : slice_get m.functions g.0 ≡ Some callee) (bodied : has_any callee.blocks ≡ true)
          (before : are_as_before s.memory (lent_in f frame args) ≡ true) where
        abbrev lent : List LentPlace
        lent = lent_in f frame args

        hands : HandsRight m s frame f g callee args
        hands = right g callee args is there_g bodied before

        lowers_g : LowersSo m g callee
        lowers_g = hands.lowers

        waits_for : IsTaskFor m (Runs (record left { lent = lent })) (Runs low)
        waits_for = IsTaskFor.runs _ _ (record {
          f = f;
          there = there;
          frames = record { function = frames.function; at = frames.at; slots = frames.slots; size = frames.size; values = left_frames.values };
        })

        hands_over : HandsOver d l.memory callee (map as_argument args) so.args'
        hands_over = record {
          as_many = as_many_read d f lowers.named low.values s.memory l.memory memory given_parts so.others args so.args' so.like ∙ hands.as_many;
          same = arguments_for d f lowers.named low.values s.memory l.memory memory given_parts so.others args so.args' so.like;
          full = parts_full_for d f lowers.named low.values s.memory l.memory memory given_parts so.others args so.args' so.like hands.full;
          addresses = addresses_for d callee (item_defined callee item.Entry) args so.args'
              (arguments_for d f lowers.named low.values s.memory l.memory memory given_parts so.others args so.args' so.like) hands.addresses;
        }

        calls_in : (next : HolderNext)
            → holder.Enters m (facts_of m) bound (record s { memory = handed_over s.memory lent }) (Runs (record left { lent = lent }) ∷ rest) g callee (map as_argument args) next
            → IsNoFault next → LowActs next
        calls_in next way none =
            let e = are_entered m bound (record s { memory = handed_over s.memory lent }) named (Runs (record left { lent = lent }) ∷ rest) (Runs low ∷ lrest) g callee
            (map as_argument args) so.args' next (record { events = totals.events; turns = totals.turns; retains = totals.retains; releases = totals.releases })
            (handed_for l.memory s.memory lent memory hands.taken) (waits_for, rest_for) full there_g lowers_g hands_over way none in
            record {
              low_next = e.0;
              way = ways.Acts.does j reads.ys e.0 low_j low_read
                  (subst (λ z. ways.Performs (lowered m) low_told bound named lrest low lf (item.Inst low.at) z e.0) (sym so.calls)
                  (ways.Performs.calls g so.args' (lowered_body d callee) e.0 (function_there m bound g.0 callee there_g lowers_g.form) (body_stays d callee bodied) e.1));
              for = subst (λ ns. IsNextAlong m ns next e.0) same_numbers e.2;
            }

      -- a function without a body
      module _ (callee : Function) (there_g : slice_get m.functions g.0 ≡ Some callee) (bodied : has_any callee.blocks ≡ false)
          (numbers : List ℤ) (counted : holder_run.numbers_of m (facts_of m) bound args ≡ Some numbers) where
        some_values : (o : Option (List Value)) → option_and_then (all_of integer_of) o ≡ Some numbers → (vs : List Value) × (o ≡ Some vs)
        some_values None e = absurd (none-some numbers e)
        some_values (Some vs) e = (vs, refl)

        same_args : so.args' ≡ args
        same_args =
            let vs = some_values (values_of args) counted in
            values_read d f lowers.named low.values s.memory l.memory memory given_parts so.others args so.args' vs.0 vs.1 so.like

        low_counted : steps.call_numbers (lowered m) low_told bound so.args' ≡ Some numbers
        low_counted = ap (λ xs. option_and_then (all_of integer_of) (values_of xs)) same_args ∙ counted

        low_there : slice_get (lowered m).functions g.0 ≡ Some (lowered_function d callee)
        low_there = mapped_at (lowered_function d) m.functions g.0 callee there_g

        turn : (b : Bool) → nat_lt s.turns bound ≡ b → nat_lt l.turns bound ≡ b
        turn b h = ap (λ n. nat_lt n bound) totals.turns ∙ h

        does : (next : HolderNext) (low_next : LowNext) → ways.Performs (lowered m) low_told bound named lrest low lf (item.Inst low.at) (effects.Calls g so.args') low_next
            → IsNextAlong m l.numbers next low_next → LowActs next
        does next low_next way for = record {
          low_next = low_next;
          way = ways.Acts.does j reads.ys low_next low_j low_read
              (subst (λ z. ways.Performs (lowered m) low_told bound named lrest low lf (item.Inst low.at) z low_next) (sym so.calls) way);
          for = for;
        }

        abbrev s1 : HolderState
        s1 = record (holder.turned s) { events = s.events ++ event.Call g numbers ∷ [] }

        abbrev l1 : LowState
        l1 = record (ways.turned named) { events = named.events ++ event.Call g numbers ∷ [] }

        totals1 : AreTotalsFor s1 l1
        totals1 = record {
          events = ap (λ es. es ++ event.Call g numbers ∷ []) totals.events;
          turns = ap (λ n. n + 1) totals.turns;
          retains = totals.retains;
          releases = totals.releases;
        }

        own : Each (IsOwnName f) (item_defined f (item.Inst p))
        own = subst (Each (IsOwnName f)) (sym (defines_there f p i here)) (lowers.results p i here keeps)

        no_entry : item.Inst p ≡ item.Entry → ⊥
        no_entry h = absurd (cc)

        abbrev result : List Datum
        result = ValueOf (value.Group value.NoValue) ∷ []

        calls_out : (some : nat_lt s.turns bound ≡ true) (next : HolderNext)
            → holder.GoesBehind m (facts_of m) bound s1 rest left f (item.Inst p) (record (unchanged s.memory) { results = result }) next → IsNoFault next → LowActs next
        calls_out some next way none =
            let size1 : length l1.numbers ≡ length s1.memory.objects = ap length same_numbers ∙ size in
            let b = goes_along m bound s1 l1 totals1 memory size1 left rest f lowers there low lrest left_frames rest_for full (item.Inst p) (item.Inst low.at)
            (behind_at d f p i here stays low.at frames.at) result result
            (λ entries put. puts_own m bound s1 l1 totals1 memory size1 left rest f lowers there low lrest left_frames rest_for full
            (item.Inst p) no_entry own (item.Inst low.at) (defines_same d f p i here stays low.at frames.at) result entries put)
            next way none in
            does next b.low_next
            (ways.Performs.calls_out g so.args' (lowered_function d callee) numbers b.low_next low_there (no_body_stays d callee bodied) low_counted (turn true some) b.way)
            (subst (λ ns. IsNextAlong m ns next b.low_next) same_numbers b.for)

        no_turn : nat_lt s.turns bound ≡ false → LowActs (Ends OutOfTurns s)
        no_turn some =
            does (Ends OutOfTurns s) (Ends OutOfTurns named)
            (ways.Performs.no_turn g so.args' (lowered_function d callee) numbers low_there (no_body_stays d callee bodied) low_counted (turn false some))
            (IsNextAlong.ends OutOfTurns s OutOfTurns named
            (record { events = totals.events; ending = IsEndingFor.out_of_turns; left = refl; retains = totals.retains; releases = totals.releases }))

    -- an `apply` makes nothing but a call
    no_change : {A : Type 0} (e : Effect HolderFault) → effects.calls d (shapes_of m) (shapes_in (shapes_of m) frame.function) s.memory i ops.given ≡ e
        → ((g : FuncId) (args : List Datum) → e ≡ effects.Calls g args → A) → (e ≡ effects.Unfit → A) → A
    no_change {A} e is calls unfit = at ops.given is
      where
        by : (xs : List Datum) (o : Option FuncId) → effects.with_some (λ g. effects.Calls g xs) o ≡ e → A
        by xs None k = unfit (sym k)
        by xs (Some g) k = calls g xs (sym k)

        at : (xs : List Datum) → effects.calls d (shapes_of m) (shapes_in (shapes_of m) frame.function) s.memory i xs ≡ e → A
        at [] h = unfit (sym h)
        at (x ∷ xs) h = by xs (as_function x) h

    performs : (e : Effect HolderFault) → holder_run.effect_in m (facts_of m) bound s frame i ops.given ≡ e → (next : HolderNext)
        → holder.Performs m (facts_of m) bound s rest left f (item.Inst p) e next → IsNoFault next → LowActs next
    performs _ is next (holder.Performs.makes c next' way) none =
        no_change (effects.Makes c) (sym (holder_effect ops.given) ∙ is) (λ g args h. absurd (cc)) (λ h. absurd (cc))
    performs _ is next (holder.Performs.calls g args callee next' there_g bodied before way) none = calls_in g args is callee there_g bodied before next way none
    performs _ is next (holder.Performs.calls_out g args callee numbers next' there_g bodied counted some way) none =
        calls_out g args is callee there_g bodied numbers counted some next way none
    performs _ is _ (holder.Performs.no_turn g args callee numbers there_g bodied counted some) none = no_turn g args is callee there_g bodied numbers counted some
    performs _ is _ (holder.Performs.traps t) none =
        no_change (effects.Traps t) (sym (holder_effect ops.given) ∙ is) (λ g args h. absurd (cc)) (λ h. absurd (cc))
    performs _ is _ (holder.Performs.no_callee g args e) none = absurd (none WrongShape s refl)
    performs _ is _ (holder.Performs.no_numbers g args callee there_g bodied e) none = absurd (none WrongShape s refl)
    performs _ is _ (holder.Performs.wrong_place g args callee there_g bodied e) none = absurd (none PlaceNotAsAsked s refl)
    performs _ is _ (holder.Performs.faults x) none = absurd (none x s refl)
    performs _ is _ holder.Performs.unfit none = absurd (none WrongShape s refl)

pub are_calls_along : AreCallsAlong
are_calls_along m bound s l frame rest f low lrest i ops next totals memory size there lowers frames rest_for full here apply is_item trail found right way none =
    let a = performs m bound s l frame rest f low lrest i ops totals memory size there lowers frames rest_for full here apply is_item trail found right
    (holder_run.effect_in m (facts_of m) bound s frame i ops.given) refl next way none in
    (a.low_next, a.way, a.for)
