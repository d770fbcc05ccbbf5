-- Counts behind terminators and calls of deinitialisers of typed states, and at the end of the run.
use Rattle.std.proofs.Common.{◌≡◌, ℕ, List, [], ◌∷◌, map, arith, refl, sym, ap, ◌∙◌, subst, true, false, Some, None, Ok}
use Rattle.std.specs.Prelude.{slice_get}
use Rattle.std.specs.List.{AllZip}
use Rattle.std.proofs.lemmas.Option.{none-some, same_Some}
use Rattle.argument_conventions.specs.Arguments.{Told, arguments_of}
use Rattle.instruction_table.specs.Forms.{ending_of}
use Rattle.instruction_table.specs.declared.entries.Ending.TheVariants as ending
use Rattle.numbered_form.specs.Lists.{Each}
use Rattle.numbered_form.specs.Names.{Name}
use Rattle.sil_ast.specs.Blocks.{args_of}
use Rattle.sil_ast.specs.declared.function.BlockArg.{BlockArg}
use Rattle.sil_ast.specs.declared.function.Function.{Function}
use Rattle.sil_ast.specs.declared.inst.Inst.{Inst}
use Rattle.sil_ast.specs.declared.module.Module.{Module}
use Rattle.sil_ast.specs.declared.place.FuncId.{FuncId}
use Rattle.sil_ast.specs.declared.place.ObjectId.{ObjectId}
use Rattle.sil_cfg.specs.declared.item.Item.TheVariants as item
use Rattle.sil_cfg_items.specs.Items.{arg_value, item_defined}
use Rattle.sil_cfg_items.specs.Parts.{inst_at}
use Rattle.sil_types_declarations.specs.TypeDefinitions.Declarations.{declarations_of}
use Rattle.sil_types_declarations.specs.TypeDefinitions.Lookups.{deinit_of}
use Rattle.sil_types_declarations.specs.TypeDefinitions.Mentions.{given_type}
use Rattle.sil_types_declarations.specs.declared.type_definitions.kind.Kind.{Kind}
use Rattle.sil_types_declarations.specs.declared.type_definitions.kind.Kind.TheVariants as kind
use Rattle.sil_verifier_runs.specs.sil_verifier_accepted.AcceptedModules.inner.Checked.{IsVerified}
use Rattle.sil_verifier_runs.specs.ownership_kinds_origins.Facts.{facts_in}
use Rattle.sil_verifier_runs.specs.sil_verifier_values.inner.Handed.{IsToldOf, kind_told}
use Rattle.sil_verifier_runs.specs.sil_verifier_values.inner.Known.{IsAcceptedBody, kind_at}
use Rattle.sil_verifier_runs.specs.holder_model.RunTyping.Forms.{OfValue, given_shape}
use Rattle.sil_verifier_runs.proofs.sil_verifier_values.Facts.{run_facts}
use Rattle.sil_verifier_runs.proofs.sil_verifier_values.Made.{items_of}
use Rattle.sil_verifier_runs.proofs.sil_verifier_values.Parameters.{entry_told}
use Rattle.ownership_lowering_laws.proofs.holder_model_typing.RunTypingLaws.ShapeFacts.{tuple_shape}
use Rattle.holder_model_values.specs.RunValues.Shapes.{Shape, shape_of}
use Rattle.holder_model_values.specs.RunValues.Trivial.{is_trivial}
use Rattle.holder_model_values.specs.RunValues.Values as value
use Rattle.sil_verifier_runs.specs.holder_model.Calling.{holds_something}
use Rattle.sil_verifier_runs.specs.holder_model.Data.{AddressOf, Datum, FunctionOf, ValueOf}
use Rattle.sil_verifier_runs.specs.holder_model.Effects.{only, unchanged}
use Rattle.sil_verifier_runs.specs.holder_model.Frames.{Frame, Operands, has_any}
use Rattle.sil_verifier_runs.specs.holder_model.HolderStates.{HolderNext, HolderState, in_state}
use Rattle.sil_verifier_runs.specs.holder_model.Holders.{of_references, one_object}
use Rattle.sil_verifier_runs.specs.holder_model.ModuleFacts.{facts_of, facts_told}
use Rattle.sil_verifier_runs.specs.holder_model.Outcomes.{Numbers}
use Rattle.sil_verifier_runs.specs.holder_model.Standing.{stands_at}
use Rattle.sil_verifier_runs.specs.holder_model.StepParts.{new_frame}
use Rattle.sil_verifier_runs.specs.holder_model.States.{Finishes, Runs, Task}
use Rattle.sil_verifier_runs.specs.holder_model_laws.HolderLaws.inner.Counts.Moving.{in_tasks}
use Rattle.sil_verifier_runs.specs.holder_model_laws.HolderLaws.inner.Counts.Naming.{in_datum}
use Rattle.sil_verifier_runs.specs.holder_model_laws.HolderLaws.inner.Counts.Taking.{references_begun}
use Rattle.sil_verifier_runs.proofs.holder_model_laws.HolderLaws.Counts.Moves.{entries_counted, first_task}
use Rattle.sil_verifier_runs.specs.holder_model_laws.HolderLaws.inner.Steps.Ways.{Acts, Enters, GoesBehind, Leaves, Reaches, StandsAtEnd, left_with, operands_in, turned}
use Rattle.sil_verifier_runs.specs.holder_model_laws.StoredCounts.inner.Numbers.{AreCounts}
use Rattle.sil_verifier_runs.proofs.holder_model_laws.StoredCounts.Turns.{kept_stored, tasks_stored}
use Rattle.ownership_lowering_runs.proofs.OwnedCounts.BroughtOwned.{HoldsNothing, brings_none}
use Rattle.ownership_lowering_runs.proofs.OwnedCounts.TakenOwned.{IsValue}
use Rattle.ownership_lowering_runs.specs.OwnedCounts.inner.CountedReturns.{ReturnsFrom}
use Rattle.ownership_lowering_runs.proofs.OwnedCounts.CountedReturns.{returns_counted}
use Rattle.sil_verifier_runs.specs.sil_verifier_frames.inner.Typed.TypedStates.{IsTypedState}
use Rattle.sil_verifier_runs.proofs.sil_verifier_frames.Typed.Data.{IsBare, bare_where, read_value}
use Rattle.sil_verifier_runs.proofs.sil_verifier_frames.Typed.GoesOn.{Running, accepted_body}
use Rattle.ownership_lowering_laws.specs.holder_model_typing.TypedMemory.inner.Worlds.{DatumIs}
use Rattle.sil_verifier_runs.proofs.sil_verifier_frames.Typed.Returns.{returned}
use Rattle.ownership_lowering_runs.proofs.SameRuns.CountedEnds.{CountedNext, branch_counted, chosen_counted}
use Rattle.ownership_lowering_runs.proofs.SameRuns.CountedReturns.{returned_total}
use Rattle.ownership_lowering_runs.proofs.SameRuns.DeinitBodies.{HasDeinit, deinit_body}
use Rattle.ownership_lowering_runs.proofs.SameRuns.DeinitsCalled.{AreCalledBelow, IsDeinitCalled}

module _ (m : Module) (v : IsVerified m) where
  -- ---- deinitialisers

  module _ (g : FuncId) (f : Function) (there : slice_get m.functions g.0 ≡ Some f) (class : Name) (is : deinit_of (declarations_of m) class ≡ Some g) where
    deinit : HasDeinit m class g
    deinit = deinit_body m v class g is

    same_body : deinit.body ≡ f
    same_body = same_Some deinit.body f (sym deinit.there ∙ there)

    -- it gives nothing
    pub gives_nothing : is_trivial (given_shape (declarations_of m) f) ≡ true
    gives_nothing =
        subst (λ (b : Function). is_trivial (given_shape (declarations_of m) b) ≡ true) same_body
        (ap (λ s. is_trivial (shape_of (declarations_of m) (given_type s))) deinit.signature ∙ ap is_trivial (tuple_shape m []))

    -- its argument is lent
    module _ (bodied : has_any f.blocks ≡ true) where
      a : IsAcceptedBody m g.0 f
      a = accepted_body m v g f there bodied

      told : AllZip (IsToldOf (declarations_of m) f) (arguments_of f.signature) (args_of f 0)
      told = entry_told m g.0 f a

      none_owned : (given : List Told) (bs : List BlockArg) → Each (λ (t : Told). kind_told t.convention ≡ kind.Guaranteed) given → AllZip (IsToldOf (declarations_of m) f) given bs
          → Each (HoldsNothing (facts_in (declarations_of m) f) []) (map arg_value bs)
      none_owned [] [] h k = tt
      none_owned [] (b ∷ bs) h k = absurd k
      none_owned (t ∷ given) [] h k = absurd k
      none_owned (t ∷ given) (b ∷ bs) h k = (other (kind_at (declarations_of m) f b.value) (k.0.has_kind ∙ h.0), none_owned given bs h.1 k.1)
        where
          other : (q : Kind) → q ≡ kind.Guaranteed → q ≡ kind.Owned → ⊥
          other q e e' = cc

      lent : Each (λ (t : Told). kind_told t.convention ≡ kind.Guaranteed) (arguments_of f.signature)
      lent = subst (λ (b : Function). Each (λ (t : Told). kind_told t.convention ≡ kind.Guaranteed) (arguments_of b.signature)) same_body
          (subst (λ s. Each (λ (t : Told). kind_told t.convention ≡ kind.Guaranteed) (arguments_of s)) (sym deinit.signature) (refl, tt))

      pub begins_nothing : (xs : List Datum) (weight : ObjectId → ℕ) → of_references weight (references_begun (facts_told (facts_of m) g) (item_defined f item.Entry) xs) ≡ 0
      begins_nothing xs weight =
          ap (λ facts. of_references weight (references_begun facts (item_defined f item.Entry) xs)) (run_facts m g f there)
          ∙ brings_none (facts_in (declarations_of m) f) [] [] (item_defined f item.Entry) [] xs (none_owned (arguments_of f.signature) (args_of f 0) lent told) weight

  module _ (bound : ℕ) (stored : List Numbers) where
    -- a deinitialiser is called
    pub deinit_counted : (s : HolderState) (g : FuncId) (gs : List FuncId) (o : ObjectId) (rest : List (Task Frame)) (f : Function) → s.tasks ≡ Finishes (g ∷ gs) o ∷ rest
        → slice_get m.functions g.0 ≡ Some f → has_any f.blocks ≡ true → (class : Name) → deinit_of (declarations_of m) class ≡ Some g → AreCounts s stored → (n : HolderNext)
        → Enters m (facts_of m) bound (record s { tasks = Finishes gs o ∷ rest }) (Finishes gs o ∷ rest) g f (ValueOf (value.Object o) ∷ []) n → CountedNext stored n
    deinit_counted s g gs o rest f is there bodied class of counts _ (Enters.enters entries put deep turn) =
        kept_stored s next stored (record { size = refl; strongly = strongly; named = λ how p. refl }) counts
      where
        next : HolderState
        next = record (turned (record s { tasks = Finishes gs o ∷ rest })) { tasks = Runs (new_frame g entries) ∷ Finishes gs o ∷ rest }

        strongly : (p : ObjectId) → in_state (one_object p) next ≡ in_state (one_object p) s
        strongly p =
            let h = entries_counted m (facts_of m) bound (one_object p) (record s { tasks = Finishes gs o ∷ rest }) (Finishes gs o ∷ rest) g f (ValueOf (value.Object o) ∷ []) entries put
            (items_of m g.0 f (accepted_body m v g f there bodied) item.Entry).defined in
            let begun = begins_nothing g f there class of bodied (ValueOf (value.Object o) ∷ []) (one_object p) in
            let tasks : in_tasks (one_object p) s.tasks ≡ in_tasks (one_object p) (Finishes (g ∷ gs) o ∷ rest) = ap (in_tasks (one_object p)) is in
            let first = first_task (one_object p) (Finishes (g ∷ gs) o) rest in
            let second = first_task (one_object p) (Finishes gs o) rest in
            omega (arith, h, begun, tasks, first, second)
    deinit_counted s g gs o rest f is there bodied class of counts _ (Enters.wrong_argument x put) = tt
    deinit_counted s g gs o rest f is there bodied class of counts _ (Enters.too_deep deep) = tt
    deinit_counted s g gs o rest f is there bodied class of counts _ (Enters.no_turn deep turn) = tt

    -- ---- terminators

    module _ (s : HolderState) (rest : List (Task Frame)) (frame : Frame) (f : Function) (r : Running m s rest frame f) (typed : IsTypedState m s) (at_top : s.tasks ≡ Runs frame ∷ rest)
        (called : AreCalledBelow m frame rest) (counts : AreCounts s stored) where
      module _ (i : Inst) (stands : StandsAtEnd m (facts_of m) bound frame f i) (returns : ending_of i.op ≡ ending.Return)
          (ops : Operands) (found : operands_in m (facts_of m) bound s frame f (item.Exit (stands_at f frame.trail)) ≡ Ok ops)
          (x : Datum) (alone : only ops.given ≡ Some x) (held : holds_something ops.left ≡ false) where
        from : ReturnsFrom m bound s rest frame f i ops x
        from = record { verified = v; typed = typed; at = at_top; there = r.typed.is; stands = stands; is = returns; taken = found; alone = alone; none = held }

        typed_as : DatumIs m r.w (OfValue (given_shape (declarations_of m) f)) x
        typed_as =
            let y = returned m v bound s rest frame f r i stands returns ops found in
            subst (DatumIs m r.w (OfValue (given_shape (declarations_of m) f))) (same_Some y.0 x (sym (ap only y.1) ∙ alone)) y.2

        value_of_it : IsValue x
        value_of_it = let z = read_value m r.w typed_as (given_shape (declarations_of m) f) refl in (z.0, z.1)

        bare_total : (weight : ObjectId → ℕ) → IsBare x → in_datum weight x ≡ 0
        bare_total weight bare = by x value_of_it bare
          where
            by : (z : Datum) → IsValue z → IsBare z → in_datum weight z ≡ 0
            by (ValueOf u) is bare = ap (of_references weight) bare
            by (AddressOf p) is bare = absurd (let e = is.1 in cc)
            by (FunctionOf h) is bare = refl

        resumed : (waiting : Frame) (others : List (Task Frame)) → rest ≡ Runs waiting ∷ others → (g : Function) → slice_get m.functions waiting.function.0 ≡ Some g → (n : HolderNext)
            → GoesBehind m (facts_of m) bound s others waiting g (item.Inst (stands_at g waiting.trail)) (record (unchanged s.memory) { results = x ∷ [] }) n → CountedNext stored n
        resumed waiting others e g there_g _ (GoesBehind.wrong_slot y w) = tt
        resumed waiting others e g there_g _ (GoesBehind.wrong_result slots y w put) = tt
        resumed waiting others e g there_g _ (GoesBehind.goes slots entries left put) =
            returns_counted m bound s others frame waiting f g i ops x slots entries stored (subst (λ ts. ReturnsFrom m bound s ts frame f i ops x) e from) there_g put counts

        reaches : (tasks : List (Task Frame)) → rest ≡ tasks → (n : HolderNext) → Reaches m (facts_of m) bound s x tasks n → CountedNext stored n
        reaches _ e _ (Reaches.ends u is) = tt
        reaches _ e n (Reaches.resumes waiting others g _ there_g moves) = resumed waiting others e g there_g n moves
        reaches _ e _ (Reaches.finishes deinits o others) =
            tasks_stored s (Finishes deinits o ∷ others) stored (λ p.
            let whole = returned_total m bound s rest frame f i ops x from p in
            let run : IsDeinitCalled m frame o = (subst (AreCalledBelow m frame) e called).0 in
            let none = bare_total (one_object p)
            (bare_where m r.w typed_as (λ shape of. subst (λ t. is_trivial t ≡ true) (of_shape of) (gives_nothing frame.function f r.typed.is run.0 run.1))) in
            let tasks : in_tasks (one_object p) s.tasks ≡ in_tasks (one_object p) (Runs frame ∷ Finishes deinits o ∷ others) =
            ap (in_tasks (one_object p)) (at_top ∙ ap (λ t. Runs frame ∷ t) e) in
            let first = first_task (one_object p) (Runs frame) (Finishes deinits o ∷ others) in
            omega (arith, whole, none, tasks, first)) counts
          where
            of_shape : {s : Shape} → OfValue (given_shape (declarations_of m) f) ≡ OfValue s → given_shape (declarations_of m) f ≡ s
            of_shape e = cc
        reaches _ e _ (Reaches.no_value is) = tt
        reaches _ e _ (Reaches.no_function waiting others is) = tt
        reaches _ e _ (Reaches.on_drops os others) = tt

      leaves : (i : Inst) (stands : StandsAtEnd m (facts_of m) bound frame f i) (returns : ending_of i.op ≡ ending.Return)
          (ops : Operands) (found : operands_in m (facts_of m) bound s frame f (item.Exit (stands_at f frame.trail)) ≡ Ok ops)
          (x : Datum) (alone : only ops.given ≡ Some x) (n : HolderNext) → Leaves m (facts_of m) bound s rest (left_with m (facts_of m) bound frame ops) f x n → CountedNext stored n
      leaves i stands returns ops found x alone n (Leaves.leaves _ held slots places way) = reaches i stands returns ops found x alone held rest refl n way
      leaves i stands returns ops found x alone _ (Leaves.holds held) = tt
      leaves i stands returns ops found x alone _ (Leaves.has_slot slots) = tt
      leaves i stands returns ops found x alone _ (Leaves.wrong_place places) = tt

      pub end_counted : inst_at f (stands_at f frame.trail) ≡ None → (n : HolderNext) → Acts m (facts_of m) bound s rest frame f n → CountedNext stored n
      end_counted at_end n (Acts.does i ops _ here found way) = absurd (none-some i (sym at_end ∙ here))
      end_counted at_end n (Acts.branches i _ stands one way) = branch_counted m v bound s rest frame f r at_top i stands stored counts one n way
      end_counted at_end n (Acts.chooses i choose y u k _ stands how by worth chosen way) =
          chosen_counted m v bound s rest frame f r at_top i stands stored counts choose how k n way
      end_counted at_end n (Acts.returns i ops x _ stands returns found alone way) = leaves i stands returns ops found x alone n way
      end_counted at_end _ (Acts.unreachable i stands e) = tt
      end_counted at_end _ (Acts.wrong_operand i x here found) = tt
      end_counted at_end _ (Acts.no_operand i choose stands how e) = tt
      end_counted at_end _ (Acts.no_entry i choose stands how by) = tt
      end_counted at_end _ (Acts.no_value i choose y stands how by e) = tt
      end_counted at_end _ (Acts.no_choice i choose y u stands how by worth e) = tt
      end_counted at_end _ (Acts.wrong_returned i x stands returns found) = tt
      end_counted at_end _ (Acts.not_one_returned i ops stands returns found e) = tt
      end_counted at_end _ (Acts.no_ending i stands e) = tt
      end_counted at_end _ (Acts.no_terminator behind e) = tt
