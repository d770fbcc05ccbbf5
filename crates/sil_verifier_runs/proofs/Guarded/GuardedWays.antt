-- The ways of the first frame of a guarded state: behind an instruction, along an edge, and into a function that is called.
use Rattle.std.proofs.Common.{◌≡◌, ℕ, ◌+◌, List, ◌∷◌, map, refl, sym, ap, ◌∙◌, true, Some, Ok, arith}
use Rattle.std.specs.Prelude.{drop, option_and_then, slice_get}
use Rattle.instruction_table.specs.Forms.{ending_of}
use Rattle.sil_cfg_items.specs.Items.{item_defined, item_taken}
use Rattle.sil_cfg_items.specs.Parts.{edge_at, inst_at, terminator_of}
use Rattle.sil_ast.specs.declared.decl.Storage.TheVariants as storage
use Rattle.sil_ast.specs.declared.function.Function.{Function}
use Rattle.sil_ast.specs.declared.inst.Edge.{Edge}
use Rattle.sil_ast.specs.declared.inst.Inst.{Inst}
use Rattle.sil_ast.specs.declared.module.Module.{Module}
use Rattle.sil_ast.specs.declared.place.EdgeId.{EdgeId}
use Rattle.sil_ast.specs.declared.place.FuncId.{FuncId}
use Rattle.sil_ast.specs.declared.place.ObjectId.{ObjectId}
use Rattle.sil_cfg.specs.declared.item.Item.TheVariants as item
use Rattle.sil_types_declarations.specs.TypeDefinitions.Declarations.{Declarations, declarations_of}
use Rattle.holder_model_values.specs.RunValues.Memory.{is_dead}
use Rattle.holder_model_values.specs.RunValues.Places.{Inside, OnStack}
use Rattle.sil_verifier_frames.specs.ownership_kinds_origins.Facts.{facts_in}
use Rattle.sil_verifier_frames.specs.sil_verifier_trails.RunTrails.inner.RunTrails.{ComesAt}
use Rattle.sil_verifier_frames.specs.sil_verifier_values.inner.Known.{IsAcceptedBody}
use Rattle.sil_verifier_frames.specs.sil_verifier_accepted.AcceptedModules.inner.Checked.{IsVerified}
use Rattle.sil_verifier_frames.proofs.sil_verifier_values.Facts.{run_facts}
use Rattle.sil_verifier_frames.proofs.Tracked.HowValuesEnd.{accepted_body}
use Rattle.sil_verifier_frames.proofs.Tracked.NextItems.{inst_comes}
use Rattle.sil_verifier_frames.specs.holder_model.Calling.{are_as_before, as_argument, handed_over, lent_places, value_count}
use Rattle.sil_verifier_frames.specs.holder_model.Data.{AddressOf, Datum}
use Rattle.sil_verifier_frames.specs.holder_model.Edges.{carried_along, carried_by}
use Rattle.sil_verifier_frames.specs.holder_model.Effects as effects
use Rattle.sil_verifier_frames.specs.holder_model.Effects.{Change, unchanged}
use Rattle.sil_verifier_frames.specs.holder_model.Frames.{Frame, Lent, LentPlace, Operands, datum_in, entry_at, has_any, no_entries, operands_of, results_put}
use Rattle.sil_verifier_frames.specs.holder_model.Holders.{one_object}
use Rattle.sil_verifier_frames.specs.holder_model.HolderStates.{HolderNext, HolderState}
use Rattle.sil_verifier_frames.specs.holder_model.MemoryEffects.{effect}
use Rattle.sil_verifier_frames.specs.holder_model.ModuleFacts.{ModuleFacts, facts_of}
use Rattle.sil_verifier_frames.specs.holder_model.ModuleShapes.{shapes_in}
use Rattle.sil_verifier_frames.specs.holder_model.Standing.{stands_at}
use Rattle.sil_verifier_frames.specs.holder_model.StepParts.{new_frame}
use Rattle.sil_verifier_frames.specs.holder_model.States.{Runs, Task}
use Rattle.sil_verifier_frames.specs.holder_model_laws.HolderLaws.inner.Steps.Ways.{Enters, GoesBehind, left_with, turned, waiting}
use Rattle.sil_verifier_frames.specs.holder_model_laws.HolderLaws.inner.Counts.Naming.{LoadsStrongly, in_data, in_datum}
use Rattle.sil_verifier_frames.proofs.holder_model_laws.HolderLaws.Counts.Sums.{total_cons}
use Rattle.sil_verifier_runs.specs.inner.Guarded.GuardedStates.{Loans}
use Rattle.sil_verifier_runs.specs.inner.Guarded.LoansKept.{Calls, Does, LoansAreKept}
use Rattle.sil_verifier_runs.specs.inner.Guarded.Rows.{HandsValues}
use Rattle.sil_verifier_runs.specs.inner.Guarded.Stepping.{frame_behind}
use Rattle.sil_verifier_runs.proofs.Guarded.CallRows.{IsCall, call_row}
use Rattle.sil_verifier_runs.proofs.Guarded.Changing.{carried_alive, changes_alive, dead_unnamed, some_through}
use Rattle.sil_verifier_runs.proofs.Guarded.EdgesLend.{edges_guarded}
use Rattle.sil_verifier_runs.proofs.Guarded.EnteredFrames.{argument_entry}
use Rattle.sil_verifier_runs.proofs.Guarded.Given.{tracked_along}
use Rattle.sil_verifier_runs.proofs.Guarded.GuardedCalls.{arguments_guarded}
use Rattle.sil_verifier_runs.proofs.Guarded.GuardedItems.{Given, GuardedNext, IsFirst, alive, borrowed, current, goes_so, kinds, left, none_in_memory, stays_so, takes}
use Rattle.sil_verifier_runs.proofs.Guarded.Handing.{arguments_name, handed_less, handed_phases}
use Rattle.sil_verifier_runs.proofs.Guarded.LentArguments.{is_argument}
use Rattle.sil_verifier_runs.proofs.Guarded.Rows.{rows_guarded}
use Rattle.sil_verifier_runs.proofs.Guarded.Stepping.{calls_guarded}

module _ (m : Module) (loans : Loans) (Placed : HolderState → Type 0) (given : Given) (kept : LoansAreKept m loans Placed) (bound : ℕ) (s : HolderState)
    (rest : List (Task Frame)) (frame : Frame) (f : Function) (first : IsFirst m loans Placed s rest frame f) where
  abbrev d : Declarations
  d = declarations_of m

  abbrev told : ModuleFacts
  told = facts_of m

  abbrev n : ℕ
  n = frame.function.0

  -- ---- an edge

  pub taken_edge : (e : EdgeId) → ComesAt f (stands_at f frame.trail) (item.Edge e) → (ops : Operands)
      → operands_of (facts_in (declarations_of m) f) s.memory frame.entries (item_taken f (item.Edge e)) ≡ Ok ops → (carried : List Datum) → carried_along f e ops.given ≡ Some carried
      → (s' : HolderState) (next : HolderNext)
      → GoesBehind m told bound s' rest (left_with m told bound frame ops) f (item.Edge e) (record (unchanged s.memory) { results = carried }) next → GuardedNext m loans Placed next
  taken_edge e comes ops ops_are carried is s' next moves =
      goes_so m loans Placed given kept bound s rest frame f first (item.Edge e) comes ops ops_are s' (record (unchanged s.memory) { results = carried })
      (stays_so m loans Placed given kept bound s rest frame f first (item.Edge e) comes ops ops_are carried
      (λ lends' k v x o defined at made named.
      edges_guarded m n f first.body e ends.0 to.0 ends.1 to.1 (loans f frame) lends' s.memory frame.entries frame.trail ops carried ops_are is
      (kinds m loans Placed given kept bound s rest frame f first (item.Edge e) comes ops ops_are)
      (left m loans Placed given kept bound s rest frame f first (item.Edge e) comes ops ops_are)
      (current m loans Placed given kept bound s rest frame f first (item.Edge e) comes ops ops_are)
      (given.edges m n f first.body first.w s.memory e frame.entries ops carried first.is.entries ops_are is) k v x o defined at made named)
      (λ o dead. dead_unnamed s.memory carried o
      (carried_alive f e s.memory ops.given carried is (alive m loans Placed given kept bound s rest frame f first (item.Edge e) comes ops ops_are)) dead))
      next moves
    where
      ends : (i : Inst) × (terminator_of f e.block.0 ≡ Some i) × (option_and_then (λ taken. carried_by (ending_of i.op) f e taken ops.given) (edge_at f e) ≡ Some carried)
      ends = some_through (λ (i : Inst). option_and_then (λ taken. carried_by (ending_of i.op) f e taken ops.given) (edge_at f e)) (terminator_of f e.block.0) carried is

      to : (t : Edge) × (edge_at f e ≡ Some t) × (carried_by (ending_of ends.0.op) f e t ops.given ≡ Some carried)
      to = some_through (λ taken. carried_by (ending_of ends.0.op) f e taken ops.given) (edge_at f e) carried ends.2

  -- ---- an instruction

  module _ (x : Inst) (here : inst_at f (stands_at f frame.trail) ≡ Some x) (ops : Operands)
      (ops_are : operands_of (facts_in (declarations_of m) f) s.memory frame.entries (item_taken f (item.Inst (stands_at f frame.trail))) ≡ Ok ops) where
    comes : ComesAt f (stands_at f frame.trail) (item.Inst (stands_at f frame.trail))
    comes = inst_comes f (stands_at f frame.trail) x here

    row : HandsValues x ops.given × LoadsStrongly s.memory x ops.given
    row = given.rows m n f first.body first.w s.memory (stands_at f frame.trail) x frame.entries ops here first.memory first.is.entries ops_are

    pub done : (c : Change) → effect (declarations_of m) (facts_of m).shapes (shapes_in (facts_of m).shapes frame.function) s.memory x ops.given ≡ effects.Makes c
        → (s' : HolderState) (next : HolderNext)
        → GoesBehind m told bound s' rest (left_with m told bound frame ops) f (item.Inst (stands_at f frame.trail)) c next → GuardedNext m loans Placed next
    done c makes s' next moves =
        goes_so m loans Placed given kept bound s rest frame f first (item.Inst (stands_at f frame.trail)) comes ops ops_are s' c
        (λ later slots behind leads.
        let does : Does m loans Placed s later rest frame f x ops c slots behind =
        record { takes = takes m loans Placed given kept bound s rest frame f first (item.Inst (stands_at f frame.trail)) comes ops ops_are; here = here; makes = makes; leads = leads } in
        let changes = changes_alive d told.shapes (shapes_in told.shapes frame.function) s.memory (Runs frame ∷ rest) x ops.given c makes first.run.dead
        (alive m loans Placed given kept bound s rest frame f first (item.Inst (stands_at f frame.trail)) comes ops ops_are) row.1 in
        record {
          lending = kept.lending s later rest frame f x ops c slots behind does;
          made = rows_guarded m n f first.body (stands_at f frame.trail) x here told.shapes (shapes_in told.shapes frame.function) (loans f frame)
              (loans f (frame_behind m loans frame (item.Inst (stands_at f frame.trail)) behind slots)) s.memory frame.entries
              frame.trail ops c ops_are makes
              (kinds m loans Placed given kept bound s rest frame f first (item.Inst (stands_at f frame.trail)) comes ops ops_are)
              (left m loans Placed given kept bound s rest frame f first (item.Inst (stands_at f frame.trail)) comes ops ops_are)
              (current m loans Placed given kept bound s rest frame f first (item.Inst (stands_at f frame.trail)) comes ops ops_are)
              row.0 (kept.loaded s later rest frame f x ops c slots behind does);
          phases = changes.0;
          none = changes.1;
          below = kept.below s later rest frame f x ops c slots behind does;
        })
        next moves

    -- ---- a call

    module _ (verified : IsVerified m) (g : FuncId) (args : List Datum)
        (calls : effect (declarations_of m) (facts_of m).shapes (shapes_in (facts_of m).shapes frame.function) s.memory x ops.given ≡ effects.Calls g args)
        (callee : Function) (there : slice_get m.functions g.0 ≡ Some callee) (bodied : has_any callee.blocks ≡ true) where
      abbrev lent : List LentPlace
      lent = lent_places (drop 1 (item_taken f (item.Inst (stands_at f frame.trail)))) args

      b : IsAcceptedBody m g.0 callee
      b = accepted_body m g.0 callee verified there bodied

      call : IsCall d told.shapes (shapes_in told.shapes frame.function) s.memory x ops.given g args
      call = call_row d told.shapes (shapes_in told.shapes frame.function) s.memory x ops.given g args calls

      -- arguments name nothing dead
      none_named : (o : ObjectId) → is_dead s.memory o ≡ true → in_data (one_object o) (map as_argument args) ≡ 0
      none_named o dead =
          let all : in_data (one_object o) ops.given ≡ 0 =
          dead_unnamed s.memory ops.given o (alive m loans Placed given kept bound s rest frame f first (item.Inst (stands_at f frame.trail)) comes ops ops_are) dead in
          let same : in_data (one_object o) ops.given ≡ in_data (one_object o) (call.callee ∷ args) = ap (in_data (one_object o)) call.given in
          let whole : in_data (one_object o) (call.callee ∷ args) ≡ in_datum (one_object o) call.callee + in_data (one_object o) args =
          total_cons (in_datum (one_object o)) call.callee args in
          let names = arguments_name (one_object o) args in
          omega (arith, all, same, whole, names)

      pub called : are_as_before s.memory lent ≡ true → (next : HolderNext)
          → Enters m told bound (record s { memory = handed_over s.memory lent }) (waiting m told bound rest (left_with m told bound frame ops) lent) g callee (map as_argument args) next
          → GuardedNext m loans Placed next
      called before _ (Enters.enters entries put deep turn) = λ placed.
          let put' : results_put (facts_in d callee) (item_defined callee item.Entry) (map as_argument args) (no_entries (value_count callee)) ≡ Ok entries =
          ap (λ facts. results_put facts (item_defined callee item.Entry) (map as_argument args) (no_entries (value_count callee))) (sym (run_facts m g callee there)) ∙ put in
          let later : HolderState = record (turned (record s { memory = handed_over s.memory lent })) {
            tasks = Runs (new_frame g entries) ∷ waiting m told bound rest (left_with m told bound frame ops) lent;
          } in
          let handing : Calls m loans Placed s later rest frame f x ops g args lent = record {
            takes = takes m loans Placed given kept bound s rest frame f first (item.Inst (stands_at f frame.trail)) comes ops ops_are;
            here = here;
            calls = calls;
            lends = refl;
            callee = callee;
            callee_is = there;
            bodied = bodied;
            before = before;
            new = new_frame g entries;
            state = placed;
            tasks = refl;
            memory = refl;
          } in
          let lending = kept.handed s later rest frame f x ops g args lent handing in
          let along = tracked_along d callee (new_frame g entries) (placed.tracked.0 callee there) in
          calls_guarded m loans s.memory (handed_over s.memory lent) rest frame f (item.Inst (stands_at f frame.trail)) ops lent g callee (map as_argument args) entries first.run
          (record {
            is = first.is.is;
            ops_are = ops_are;
            borrowed = borrowed m loans Placed given kept bound s rest frame f first (item.Inst (stands_at f frame.trail)) comes ops ops_are;
            lending = lending;
            below = kept.handed_below s later rest frame f x ops g args lent handing;
            phases = handed_phases lent s.memory;
            less = λ o. handed_less (one_object o) storage.Strong lent s.memory;
            callee_is = there;
            put = put';
            none = λ o dead.
                let less = handed_less (one_object o) storage.Strong lent s.memory in
                let none = none_in_memory m loans s.memory (Runs frame ∷ rest) first.run o dead in
                record { results = none_named o dead; dropped = refl; memory = omega (arith, less, none) };
            arguments =
                arguments_guarded m loans n f first.body first.w s.memory rest frame (stands_at f frame.trail) x here ops first.run first.is.is first.is.entries ops_are
                told.shapes (shapes_in told.shapes frame.function) g args calls (handed_over s.memory lent) lent
                (current m loans Placed given kept bound s rest frame f first (item.Inst (stands_at f frame.trail)) comes ops ops_are)
                (borrowed m loans Placed given kept bound s rest frame f first (item.Inst (stands_at f frame.trail)) comes ops ops_are) lending callee b
                (λ k v y defined at made plain inside.
                let entry = argument_entry m g.0 callee b (map as_argument args) entries along put' k v y defined at plain (Lent y) made in
                let names : datum_in (entry_at entries v) ≡ Some (AddressOf inside.place) = ap datum_in entry ∙ ap Some inside.is in
                let on = kept.arguments later (waiting m told bound rest (left_with m told bound frame ops) lent) (new_frame g entries) callee placed refl there v
                inside.place (is_argument m g.0 callee b k v defined) names in
                let no : OnStack ≡ Inside inside.object = sym on ∙ inside.home in
                absurd (cc));
          })
      called before _ (Enters.wrong_argument y put) = tt
      called before _ (Enters.too_deep deep) = tt
      called before _ (Enters.no_turn deep turn) = tt
