-- Behind a return stored numbers are counts.
use Rattle.std.proofs.Common.{◌≡◌, ◌⊎◌, inl, inr, ℕ, ◌+◌, ◌<◌, List, [], ◌∷◌, ◌++◌, length, append-nil, refl, sym, ap, ◌∙◌, subst, true, Some, Ok, arith}
use Rattle.std.specs.List.{AllZip}
use Rattle.std.proofs.lemmas.Option.{same_Some}
use Rattle.instruction_table.specs.Forms.{ending_of, roles_of}
use Rattle.instruction_table.specs.declared.entries.Ending.TheVariants as ending
use Rattle.instruction_table.specs.declared.op.Op.{Op}
use Rattle.instruction_table.specs.declared.op.Op.TheVariants as op
use Rattle.numbered_form.specs.Lists.{Each}
use Rattle.sil_ast.specs.declared.function.Function.{Function}
use Rattle.sil_ast.specs.declared.inst.Inst.{Inst}
use Rattle.sil_ast.specs.declared.module.Module.{Module}
use Rattle.sil_ast.specs.declared.place.ObjectId.{ObjectId}
use Rattle.sil_ast.specs.declared.place.PointId.{PointId}
use Rattle.sil_cfg.specs.declared.item.Item.TheVariants as item
use Rattle.sil_cfg_items.specs.Items.{item_defined, item_taken, taken_in}
use Rattle.sil_cfg_items.specs.Parts.{inst_at}
use Rattle.sil_cfg_items.specs.Roles.{conventions_in, taken_by}
use Rattle.sil_cfg_items.specs.declared.taken.Taken.{Taken}
use Rattle.ownership_kinds_chains.specs.OwnershipMarks.Marks.{ends_owned}
use Rattle.sil_types_declarations.specs.TypeDefinitions.Declarations.{Declarations, declarations_of}
use Rattle.sil_types_declarations.specs.declared.type_definitions.kind.Kind.TheVariants as kind
use Rattle.holder_model_values.specs.RunValues.Trivial.{is_trivial}
use Rattle.holder_model_values.specs.RunValues.Values.{references_of}
use Rattle.sil_verifier_runs.specs.ownership_kinds_origins.Facts.{facts_in}
use Rattle.sil_verifier_runs.specs.sil_verifier_values.inner.Known.{IsAcceptedBody, kind_at}
use Rattle.sil_verifier_runs.specs.sil_verifier_values.inner.Operands.{SuitsRole}
use Rattle.sil_verifier_runs.specs.holder_model.RunTyping.CallForms.{IsOf}
use Rattle.sil_verifier_runs.specs.holder_model.RunTyping.Forms.{given_shape}
use Rattle.sil_verifier_runs.proofs.sil_verifier_values.Facts.{run_facts}
use Rattle.sil_verifier_runs.proofs.sil_verifier_values.Suited.{suited}
use Rattle.numbered_form.proofs.Lists.{contained}
use Rattle.ownership_lowering_laws.proofs.holder_model_typing.RunTypingLaws.Declared.{each_from}
use Rattle.sil_verifier_runs.specs.holder_model.Data.{AddressOf, Datum, FunctionOf, ValueOf, as_value}
use Rattle.sil_verifier_runs.specs.holder_model.Effects.{only}
use Rattle.sil_verifier_runs.specs.holder_model.Frames.{Frame, Operands, operands_of, results_put}
use Rattle.sil_verifier_runs.specs.holder_model.HolderStates.{HolderState}
use Rattle.sil_verifier_runs.specs.holder_model.Holders.{of_references, one_object}
use Rattle.sil_verifier_runs.specs.holder_model.ModuleFacts.{facts_of, facts_told}
use Rattle.sil_verifier_runs.specs.holder_model.Standing.{stands_at}
use Rattle.sil_verifier_runs.specs.holder_model.States.{Runs, Task}
use Rattle.sil_verifier_runs.specs.holder_model_laws.HolderLaws.inner.Counts.Naming.{in_data, in_datum}
use Rattle.sil_verifier_runs.specs.holder_model_laws.HolderLaws.inner.Counts.Taking.{IsBelow, references_begun, references_ended}
use Rattle.sil_verifier_runs.proofs.holder_model_laws.HolderLaws.Counts.Sums.{total_cons}
use Rattle.sil_verifier_runs.specs.holder_model_laws.StoredCounts.inner.FrameTurns.{LeavesNothing}
use Rattle.sil_verifier_runs.proofs.holder_model_laws.StoredCounts.FrameTurns.{left_stored, returns_stored}
use Rattle.sil_verifier_runs.specs.sil_verifier_frames.inner.Typed.TypedStates.{EntriesAre, FrameIs, TasksAre, WaitsTyped}
use Rattle.sil_verifier_runs.proofs.sil_verifier_frames.Typed.Data.{read_value}
use Rattle.sil_verifier_runs.proofs.sil_verifier_frames.Typed.GoesOn.{Running, accepted_body, typed_module}
use Rattle.sil_verifier_runs.proofs.sil_verifier_frames.Typed.Performs.{defines_results}
use Rattle.sil_verifier_runs.proofs.sil_verifier_frames.Typed.Returns.{returned}
use Rattle.ownership_lowering_runs.specs.OwnedCounts.inner.CountedReturns.{AreLeftCounted, AreReturnsCounted, ReturnsFrom}
use Rattle.ownership_lowering_runs.proofs.OwnedCounts.BroughtOwned.{MayHold, brings_all}
use Rattle.ownership_lowering_runs.proofs.OwnedCounts.GivenOwned.{given_as}
use Rattle.ownership_lowering_runs.proofs.OwnedCounts.OwnedInsts.{each_weaker}
use Rattle.ownership_lowering_runs.proofs.OwnedCounts.RowTables.{all_roles, consumed_role, each_role, is_consumed_role}
use Rattle.ownership_lowering_runs.proofs.OwnedCounts.Taken.{IsTakenAs}
use Rattle.ownership_lowering_runs.proofs.OwnedCounts.TakenOwned.{GivesUp, IsValue, MayEndBy, takes_all}

return_roles : (o : Op) → ending_of o ≡ ending.Return → all_roles is_consumed_role (roles_of o) ≡ true
return_roles op.Return e = refl
return_roles _ e = cc

only_is : (xs : List Datum) (x : Datum) → only xs ≡ Some x → xs ≡ x ∷ []
only_is [] x h = cc
only_is (y ∷ []) x h = ap (λ z. z ∷ []) (same_Some y x h)
only_is (y ∷ z ∷ zs) x h = cc

module _ (m : Module) (bound : ℕ) (s : HolderState) (rest : List (Task Frame)) (frame : Frame) (f : Function) (i : Inst) (ops : Operands) (x : Datum)
    (h : ReturnsFrom m bound s rest frame f i ops x) where
  abbrev d : Declarations
  d = declarations_of m

  abbrev p : PointId
  p = stands_at f frame.trail

  abbrev ts : List Taken
  ts = item_taken f (item.Exit p)

  pub running : Running m s rest frame f
  running =
      let going = subst (TasksAre m h.typed.world) h.at h.typed.tasks in
      record {
        w = h.typed.world;
        of = h.typed.of;
        memory = h.typed.memory;
        typed = subst (λ g. FrameIs m h.typed.world g frame) (same_Some going.0.0 f (sym going.0.1.is ∙ h.there)) going.0.1;
        below = going.1;
      }

  same_facts : facts_told (facts_of m) frame.function ≡ facts_in d f
  same_facts = run_facts m frame.function f h.there

  accepted : IsAcceptedBody m frame.function.0 f
  accepted = accepted_body m h.verified frame.function f h.there running.typed.bodied

  found : operands_of (facts_in d f) s.memory frame.entries ts ≡ Ok ops
  found = subst (λ facts. operands_of facts s.memory frame.entries ts ≡ Ok ops) same_facts h.taken

  taken_is : ts ≡ taken_by i
  taken_is = ap (λ o. taken_in o ++ []) h.stands.terminator ∙ append-nil (taken_by i)

  given : AllZip (IsTakenAs (facts_in d f) frame.entries) ts ops.given
  given = given_as m running.w f frame.entries running.typed.entries s.memory ts ops (((typed_module m h.verified).functions frame.function.0 f h.there).items (item.Exit p)).taken found

  consumed : Each (λ (t : Taken). is_consumed_role t.role ≡ true) ts
  consumed = subst (Each (λ (t : Taken). is_consumed_role t.role ≡ true)) (sym taken_is)
      (each_role is_consumed_role refl (roles_of i.op) (conventions_in i) i.operands (return_roles i.op h.is))

  kinds : Each (λ (t : Taken). SuitsRole d f t.role t.value) ts
  kinds = each_from (λ (t : Taken). SuitsRole d f t.role t.value) ts (λ k t at. suited m frame.function.0 f accepted (item.Exit p) t (contained ts k t at))

  gives_up : Each (GivesUp (facts_in d f) frame.entries) ts
  gives_up = both ts consumed kinds
    where
      both : (us : List Taken) → Each (λ (t : Taken). is_consumed_role t.role ≡ true) us → Each (λ (t : Taken). SuitsRole d f t.role t.value) us → Each (GivesUp (facts_in d f) frame.entries) us
      both [] a b = tt
      both (u ∷ us) a b = (record { role = ap ends_owned (consumed_role u.role a.0); may = subst (λ r. SuitsRole d f r u.value) (consumed_role u.role a.0) b.0 }, both us a.1 b.1)

  pub is_value : IsValue x
  is_value =
      let back = returned m h.verified bound s rest frame f running i h.stands h.is ops h.taken in
      let v = read_value m running.w back.2 _ refl in
      let same : back.0 ≡ x = same_Some back.0 x (sym (ap only back.1) ∙ h.alone) in
      (v.0, sym same ∙ v.1)

  -- what it took is what it returns
  pub ended : (o : ObjectId) → of_references (one_object o) (references_ended (facts_told (facts_of m) frame.function) frame.entries ts) ≡ in_data (one_object o) (x ∷ [])
  ended o =
      ap (λ facts. of_references (one_object o) (references_ended facts frame.entries ts)) same_facts
      ∙ takes_all (facts_in d f) frame.entries [] ts ops.given given gives_up (subst (Each IsValue) (sym (only_is ops.given x h.alone)) (is_value, tt)) (one_object o)
      ∙ ap (in_data (one_object o)) (only_is ops.given x h.alone)

  pub leaves : LeavesNothing m (facts_of m) bound s rest frame f (item.Exit p) ops
  leaves = record { reads = record { at = h.at; taken = h.taken }; none = h.none }

pub returns_counted : AreReturnsCounted
returns_counted m bound s rest callee frame body f i ops x slots entries stored h there put counts =
    returns_stored m (facts_of m) bound s rest callee body (item.Exit (stands_at body callee.trail)) ops x frame f (item.Inst (stands_at f frame.trail)) slots entries stored (record {
      leaves = leaves m bound s (Runs frame ∷ rest) callee body i ops x h;
      put = put;
      each = each_weaker (IsOf f) (IsBelow (length frame.entries)) (λ v of. subst (λ n. v.0 < n) (sym entries_are.size) of) _
          (((typed_module m h.verified).functions frame.function.0 f there).items (item.Inst (stands_at f frame.trail))).defined;
      same = λ o. brought o ∙ sym (ended m bound s (Runs frame ∷ rest) callee body i ops x h o);
    }) counts
  where
    r : Running m s (Runs frame ∷ rest) callee body
    r = running m bound s (Runs frame ∷ rest) callee body i ops x h

    waits : WaitsTyped m r.w callee frame rest
    waits = r.below.0

    same : waits.f ≡ f
    same = same_Some waits.f f (sym waits.of.is ∙ there)

    stands : inst_at f (stands_at f frame.trail) ≡ Some waits.call
    stands = subst (λ (k : Function). inst_at k (stands_at k frame.trail) ≡ Some waits.call) same waits.stands

    defined : item_defined f (item.Inst (stands_at f frame.trail)) ≡ waits.result ∷ []
    defined = defines_results f (stands_at f frame.trail) waits.call stands ∙ waits.results

    entries_are : EntriesAre m r.w f frame.entries
    entries_are = subst (λ k. EntriesAre m r.w k frame.entries) same waits.of.entries

    facts_are : facts_told (facts_of m) frame.function ≡ facts_in (declarations_of m) f
    facts_are = run_facts m frame.function f there

    may : MayHold (facts_in (declarations_of m) f) frame.entries waits.result
    may = subst (λ k. MayEndBy (kind_at (declarations_of m) k waits.result)) same (at waits.taken)
      where
        at : (kind_at (declarations_of m) waits.f waits.result ≡ kind.Owned)
            ⊎ ((kind_at (declarations_of m) waits.f waits.result ≡ kind.Plain) × (is_trivial (given_shape (declarations_of m) waits.body) ≡ true))
            → MayEndBy (kind_at (declarations_of m) waits.f waits.result)
        at (inl owned) = inl owned
        at (inr plain) = inr plain.0

    brought : (o : ObjectId) → of_references (one_object o) (references_begun (facts_told (facts_of m) frame.function) (item_defined f (item.Inst (stands_at f frame.trail))) (x ∷ []))
        ≡ in_data (one_object o) (x ∷ [])
    brought o =
        ap (λ facts. of_references (one_object o) (references_begun facts (item_defined f (item.Inst (stands_at f frame.trail))) (x ∷ []))) facts_are
        ∙ brings_all (facts_in (declarations_of m) f) frame.entries [] (item_defined f (item.Inst (stands_at f frame.trail))) [] (x ∷ []) frame.entries entries
        (subst (λ facts. results_put facts (item_defined f (item.Inst (stands_at f frame.trail))) (x ∷ []) frame.entries ≡ Ok entries) facts_are put)
        (subst (Each (MayHold (facts_in (declarations_of m) f) frame.entries)) (sym defined) (may, tt))
        (is_value m bound s (Runs frame ∷ rest) callee body i ops x h, tt) (one_object o)

pub left_counted : AreLeftCounted
left_counted m bound s frame f i ops x v stored h is counts o =
    left_stored m (facts_of m) bound s frame f (item.Exit (stands_at f frame.trail)) ops v stored (leaves m bound s [] frame f i ops x h)
    (λ q. named q ∙ sym (ended m bound s [] frame f i ops x h q)) counts o
  where
    as_one : (y : Datum) → as_value y ≡ Some v → y ≡ ValueOf v
    as_one (ValueOf u) e = ap ValueOf (same_Some u v e)
    as_one (AddressOf q) e = cc
    as_one (FunctionOf g) e = cc

    named : (q : ObjectId) → of_references (one_object q) (references_of v) ≡ in_data (one_object q) (x ∷ [])
    named q =
        let one : in_data (one_object q) (ValueOf v ∷ []) ≡ in_datum (one_object q) (ValueOf v) + 0 = total_cons (in_datum (one_object q)) (ValueOf v) [] in
        let back : in_data (one_object q) (x ∷ []) ≡ in_data (one_object q) (ValueOf v ∷ []) = ap (λ y. in_data (one_object q) (y ∷ [])) (as_one x is) in
        omega (arith, one, back)
