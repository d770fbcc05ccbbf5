-- Counts behind an edge: what the block's arguments hold is what was handed over.
use Rattle.std.proofs.Common.{◌≡◌, ◌⊎◌, inl, inr, ℕ, zero, suc, ◌+◌, List, [], ◌∷◌, ◌++◌, map, length, drop, arith, refl, sym, ap, ◌∙◌, subst, Bool, true, false, cond, Option, Some, Ok}
use Rattle.std.specs.Prelude.{◌==◌, is_none, option_and_then, option_map, slice_get}
use Rattle.std.specs.List.{AllZip}
use Rattle.std.proofs.lemmas.Option.{same_Some}
use Rattle.instruction_table.specs.Forms.{ending_of, roles_of}
use Rattle.instruction_table.specs.declared.entries.Ending.TheVariants as ending
use Rattle.instruction_table.specs.declared.entries.Role.TheVariants as role
use Rattle.instruction_table.specs.declared.op.Op.{Op}
use Rattle.instruction_table.specs.declared.op.Op.TheVariants as op
use Rattle.numbered_form.specs.Lists.{Each}
use Rattle.sil_ast.specs.declared.function.BlockArg.{BlockArg}
use Rattle.sil_ast.specs.declared.function.Function.{Function}
use Rattle.sil_ast.specs.declared.inst.Inst.{Inst}
use Rattle.sil_ast.specs.declared.module.Module.{Module}
use Rattle.sil_ast.specs.declared.inst.Edge.{Edge}
use Rattle.sil_ast.specs.declared.operands.Operand.{Operand}
use Rattle.sil_ast.specs.declared.place.EdgeId.{EdgeId}
use Rattle.sil_ast.specs.declared.place.ObjectId.{ObjectId}
use Rattle.sil_ast.specs.declared.place.PointId.{PointId}
use Rattle.sil_ast.specs.declared.place.ValueId.{ValueId}
use Rattle.sil_ast.specs.Blocks.{args_of}
use Rattle.holder_model_values.specs.RunValues.Values.{Case, Full, Value}
use Rattle.sil_cfg.specs.declared.item.Item.TheVariants as item
use Rattle.sil_cfg_items.specs.Items.{arg_value, item_defined, item_taken, taken_along_in, taken_in}
use Rattle.sil_cfg_items.specs.Parts.{args_behind, edge_at, item_operands, operands_in}
use Rattle.sil_cfg_items.specs.Roles.{by_row, consumed, conventions_in, roles_for, taken_along, taken_as, taken_by, taken_each}
use Rattle.sil_cfg_items.specs.declared.taken.Taken.{Taken}
use Rattle.ownership_kinds_chains.specs.declared.ownership_chains.facts.Facts.{Facts}
use Rattle.sil_types_declarations.specs.TypeDefinitions.Declarations.{Declarations, declarations_of}
use Rattle.sil_types_declarations.specs.declared.type_definitions.kind.Kind.{Kind}
use Rattle.sil_types_declarations.specs.declared.type_definitions.kind.Kind.TheVariants as kind
use Rattle.sil_verifier_runs.specs.sil_verifier_accepted.AcceptedModules.inner.Checked.{IsVerified}
use Rattle.sil_verifier_runs.specs.ownership_kinds_origins.Facts.{facts_in}
use Rattle.sil_verifier_runs.specs.sil_verifier_values.inner.Handed.{Becomes, TakenBy, Takes, TakesOver}
use Rattle.sil_verifier_runs.specs.sil_verifier_values.inner.Known.{IsAcceptedBody, kind_at}
use Rattle.sil_verifier_runs.specs.sil_verifier_values.inner.Operands.{MayEnd}
use Rattle.sil_verifier_runs.proofs.sil_verifier_values.Branches.{taken_over}
use Rattle.sil_verifier_runs.proofs.sil_verifier_values.Facts.{run_facts}
use Rattle.sil_verifier_runs.proofs.sil_verifier_values.Made.{items_of}
use Rattle.sil_verifier_runs.proofs.sil_verifier_values.Switches.{switched}
use Rattle.sil_verifier_runs.specs.holder_model.Data.{Datum, ValueOf}
use Rattle.sil_verifier_runs.specs.holder_model.Edges.{carried_along, carried_by, edge_of, first_value_of, payload_data, switched_data}
use Rattle.sil_verifier_runs.specs.holder_model.Frames.{Entry, Frame, Operands, operands_of, results_put}
use Rattle.sil_verifier_runs.specs.holder_model.HolderStates.{HolderState}
use Rattle.sil_verifier_runs.specs.holder_model.Holders.{of_references}
use Rattle.sil_verifier_runs.specs.holder_model.ModuleFacts.{facts_of, facts_told}
use Rattle.sil_verifier_runs.specs.holder_model.Standing.{stands_at}
use Rattle.sil_verifier_runs.specs.holder_model.States.{Task}
use Rattle.sil_verifier_runs.specs.holder_model_laws.HolderLaws.inner.Counts.Naming.{in_data, in_datum}
use Rattle.sil_verifier_runs.specs.holder_model_laws.HolderLaws.inner.Counts.Taking.{references_begun, references_ended, references_ended_by}
use Rattle.sil_verifier_runs.proofs.holder_model_laws.HolderLaws.Counts.Sums.{total_append, total_cons}
use Rattle.sil_verifier_runs.specs.holder_model_laws.HolderLaws.inner.Steps.Ways as ways
use Rattle.sil_verifier_runs.specs.holder_model_laws.HolderLaws.inner.Steps.Ways.{StandsAtEnd}
use Rattle.ownership_lowering_runs.proofs.OwnedCounts.BroughtOwned.{HoldsNothing, MayHold, brings_all, brings_none}
use Rattle.ownership_lowering_runs.proofs.OwnedCounts.GivenOwned.{given_as}
use Rattle.ownership_lowering_runs.proofs.OwnedCounts.Taken.{IsTakenAs}
use Rattle.ownership_lowering_runs.proofs.OwnedCounts.TakenOwned.{GivesUp, IsValue, Keeps, gives_one, keeps_one, takes_all}
use Rattle.sil_verifier_runs.proofs.sil_verifier_frames.Typed.GoesOn.{Running, accepted_body}

-- ---- lists

drop_zip : {A B : Type 0} (R : A → B → Type 0) (xs ys : List A) (zs : List B) → AllZip R (xs ++ ys) zs → AllZip R ys (drop (length xs) zs)
drop_zip R [] ys zs h = h
drop_zip R (x ∷ xs) ys [] h = absurd h
drop_zip R (x ∷ xs) ys (z ∷ zs) h = drop_zip R xs ys zs h.1

drop_each : {A : Type 0} (P : A → Type 0) (n : ℕ) (xs : List A) → Each P xs → Each P (drop n xs)
drop_each P zero xs h = h
drop_each P (suc n) [] h = tt
drop_each P (suc n) (x ∷ xs) h = drop_each P n xs h.1

-- ---- operands

module _ (facts : ValueId → Option Facts) (entries : List Entry) where
  -- operands that stay take nothing away before those that end
  front_kept : (ts us : List Taken) (zs : List Datum) → AllZip (IsTakenAs facts entries) (ts ++ us) zs → Each (Keeps facts entries) ts → (weight : ObjectId → ℕ)
      → of_references weight (references_ended facts entries (ts ++ us)) ≡ of_references weight (references_ended facts entries us)
  front_kept [] us zs given keeps weight = refl
  front_kept (t ∷ ts) us [] given keeps weight = absurd given
  front_kept (t ∷ ts) us (z ∷ zs) given keeps weight =
      let both : of_references weight (references_ended facts entries ((t ∷ ts) ++ us))
      ≡ of_references weight (references_ended_by facts entries t) + of_references weight (references_ended facts entries (ts ++ us)) =
      total_append weight (references_ended_by facts entries t) (references_ended facts entries (ts ++ us)) in
      let first = keeps_one facts entries weight t z given.0 keeps.0 in
      let rest = front_kept ts us zs given.1 keeps.1 weight in
      omega (arith, both, first, rest)

pub br_op : (o : Op) → ending_of o ≡ ending.OneBranch → o ≡ op.Br
br_op op.Br e = refl
br_op _ e = cc

pub cond_op : (o : Op) → ending_of o ≡ ending.TwoBranches → o ≡ op.CondBr
cond_op op.CondBr e = refl
cond_op _ e = cc

pub switch_op : (o : Op) → ending_of o ≡ ending.Cases → o ≡ op.SwitchEnum
switch_op op.SwitchEnum e = refl
switch_op _ e = cc

pub one_by : (o p : Op) (conventions : List _) (x : Operand) (os : List Operand) → o ≡ p → os ≡ x ∷ []
    → taken_each os (roles_for (roles_of o) conventions (length os)) ≡ taken_each (x ∷ []) (roles_for (roles_of p) conventions 1)
one_by o p conventions x os is one =
    ap (λ q. taken_each os (roles_for (roles_of q) conventions (length os))) is ∙ ap (λ ys. taken_each ys (roles_for (roles_of p) conventions (length ys))) one

-- a value of an enum
pub data IsCase : Value → Type 0 where
  alone : (n : ℕ) → IsCase (Case n)
  carries : (n : ℕ) (z : Value) → IsCase (Full n z)

-- ---- what an edge does

module _ (m : Module) (v : IsVerified m) (bound : ℕ) (s : HolderState) (rest : List (Task Frame)) (frame : Frame) (f : Function) (r : Running m s rest frame f)
    (i : Inst) (stands : StandsAtEnd m (facts_of m) bound frame f i) (k : ℕ) (y : Edge)
    (at : edge_at f (edge_of (stands_at f frame.trail) k) ≡ Some y)
    (ops : Operands) (found : ways.operands_in m (facts_of m) bound s frame f (item.Edge (edge_of (stands_at f frame.trail) k)) ≡ Ok ops)
    (values : Each IsValue ops.given)
    (carried : List Datum) (is : carried_along f (edge_of (stands_at f frame.trail) k) ops.given ≡ Some carried)
    (entries : List Entry)
    (put : results_put (facts_told (facts_of m) frame.function) (item_defined f (item.Edge (edge_of (stands_at f frame.trail) k))) carried ops.left ≡ Ok entries) where
  abbrev d : Declarations
  d = declarations_of m

  abbrev p : PointId
  p = stands_at f frame.trail

  abbrev e : EdgeId
  e = edge_of p k

  abbrev ts : List Taken
  ts = item_taken f (item.Edge e)

  abbrev facts : ValueId → Option Facts
  facts = facts_in d f

  abbrev args : List BlockArg
  args = args_of f y.block.0

  a : IsAcceptedBody m frame.function.0 f
  a = accepted_body m v frame.function f r.typed.is r.typed.bodied

  facts_so : facts_told (facts_of m) frame.function ≡ facts
  facts_so = run_facts m frame.function f r.typed.is

  found_so : operands_of facts s.memory frame.entries ts ≡ Ok ops
  found_so = ap (λ g. operands_of g s.memory frame.entries ts) (sym facts_so) ∙ found

  put_so : results_put facts (map arg_value args) carried ops.left ≡ Ok entries
  put_so =
      ap (λ vs. results_put facts vs carried ops.left) (sym (ap (λ o. map arg_value (args_behind f o)) at))
      ∙ ap (λ g. results_put g (item_defined f (item.Edge e)) carried ops.left) (sym facts_so) ∙ put

  given : AllZip (IsTakenAs facts frame.entries) ts ops.given
  given = given_as m r.w f frame.entries r.typed.entries s.memory ts ops (items_of m frame.function.0 f a (item.Edge e)).taken found_so

  taken_parts : ts ≡ taken_by i ++ taken_along y
  taken_parts = ap (λ t. taken_in t ++ taken_along_in (edge_at f e)) stands.terminator ∙ ap (λ o. taken_by i ++ taken_along_in o) at

  carried_so : carried_by (ending_of i.op) f e y ops.given ≡ Some carried
  carried_so =
      sym (ap (option_and_then (λ j. option_and_then (λ taken. carried_by (ending_of j.op) f e taken ops.given) (edge_at f e))) stands.terminator
      ∙ ap (option_and_then (λ taken. carried_by (ending_of i.op) f e taken ops.given)) at) ∙ is

  -- arguments hold what operands held
  abbrev pub Balances : Type 0
  Balances = (weight : ObjectId → ℕ) → of_references weight (references_begun (facts_told (facts_of m) frame.function) (item_defined f (item.Edge e)) carried)
      ≡ of_references weight (references_ended (facts_told (facts_of m) frame.function) frame.entries ts)

  -- in the facts of the function, and of the arguments of the block
  so_balanced : ((weight : ObjectId → ℕ) → of_references weight (references_begun facts (map arg_value args) carried) ≡ of_references weight (references_ended facts frame.entries ts))
      → Balances
  so_balanced h weight =
      ap (λ g. of_references weight (references_begun g (item_defined f (item.Edge e)) carried)) facts_so
      ∙ ap (λ o. of_references weight (references_begun facts (map arg_value (args_behind f o)) carried)) at
      ∙ h weight ∙ sym (ap (λ g. of_references weight (references_ended g frame.entries ts)) facts_so)

  -- ---- branches

  module _ (branch : (i.op ≡ op.Br) ⊎ (i.op ≡ op.CondBr)) (kept : Each (Keeps facts frame.entries) (taken_by i)) (as_many : length (taken_by i) ≡ length i.operands)
      (hands : carried_by (ending_of i.op) f e y ops.given ≡ Some (drop (length (item_operands f (item.Edge e))) ops.given)) where
    over : AllZip (TakesOver d f) y.args args
    over = taken_over m frame.function.0 f a e i y stands.terminator at branch

    all_given : (os : List Operand) (bs : List BlockArg) → AllZip (TakesOver d f) os bs → Each (GivesUp facts frame.entries) (map consumed os)
    all_given [] bs h = tt
    all_given (o ∷ os) [] h = absurd h
    all_given (o ∷ os) (b ∷ bs) h = (record { role = refl; may = h.0.ends }, all_given os bs h.1)

    held_on : (q t : Kind) → (q ≡ kind.Owned) ⊎ (q ≡ kind.Plain) → Becomes q t → (t ≡ kind.Owned) ⊎ (t ≡ kind.Plain)
    held_on q t (inl o) (inl same) = inl (sym same ∙ o)
    held_on q t (inr o) (inl same) = inr (sym same ∙ o)
    held_on q t may (inr both) = inl both.1

    all_taken : (os : List Operand) (bs : List BlockArg) → AllZip (TakesOver d f) os bs → Each (MayHold facts frame.entries) (map arg_value bs)
    all_taken [] [] h = tt
    all_taken [] (b ∷ bs) h = absurd h
    all_taken (o ∷ os) [] h = absurd h
    all_taken (o ∷ os) (b ∷ bs) h = (held_on (kind_at d f o.value) (kind_at d f b.value) h.0.ends h.0.becomes, all_taken os bs h.1)

    rest_is : carried ≡ drop (length (taken_by i)) ops.given
    rest_is =
        let same : drop (length (item_operands f (item.Edge e))) ops.given ≡ carried = same_Some (drop (length (item_operands f (item.Edge e))) ops.given) carried (sym hands ∙ carried_so) in
        sym same ∙ ap (λ n. drop n ops.given) (ap (λ o. length (operands_in o)) stands.terminator ∙ sym as_many)

    pub branch_balances : Balances
    branch_balances = so_balanced (λ weight.
        let zip = subst (λ us. AllZip (IsTakenAs facts frame.entries) us ops.given) taken_parts given in
        let rest_values = drop_each IsValue (length (taken_by i)) ops.given values in
        let ended = takes_all facts frame.entries [] (taken_along y) (drop (length (taken_by i)) ops.given)
        (drop_zip (IsTakenAs facts frame.entries) (taken_by i) (taken_along y) ops.given zip) (all_given y.args args over) rest_values weight in
        let front = front_kept facts frame.entries (taken_by i) (taken_along y) ops.given zip kept weight in
        let parts = ap (λ us. of_references weight (references_ended facts frame.entries us)) taken_parts in
        let begun = brings_all facts frame.entries [] (map arg_value args) [] carried ops.left entries put_so (all_taken y.args args over)
        (subst (Each IsValue) (sym rest_is) rest_values) weight in
        let same = ap (in_data weight) rest_is in
        omega (arith, ended, front, parts, begun, same))

  -- ---- switches

  module _ (cases : ending_of i.op ≡ ending.Cases) (no_args : y.args ≡ []) (o : Operand) (one : i.operands ≡ o ∷ []) (u : Value) (chosen : IsCase u)
      (given_is : ops.given ≡ ValueOf u ∷ []) where
    abbrev t : Taken
    t = taken_as o (by_row role.Forwarded)

    taken_is : ts ≡ t ∷ []
    taken_is =
        taken_parts
        ∙ ap (λ us. us ++ taken_along y) (one_by i.op op.SwitchEnum (conventions_in i) o i.operands (switch_op i.op cases) one)
        ∙ ap (λ os. t ∷ map consumed os) no_args

    given_as_one : IsTakenAs facts frame.entries t (ValueOf u)
    given_as_one = (subst (λ us. AllZip (IsTakenAs facts frame.entries) us (ValueOf u ∷ [])) taken_is (subst (AllZip (IsTakenAs facts frame.entries) ts) given_is given)).0

    carried_is : carried ≡ switched_data y (length args) u
    carried_is =
        same_Some carried (switched_data y (length args) u)
        (sym carried_so ∙ ap (λ z. carried_by z f e y ops.given) cases ∙ ap (λ zs. option_map (switched_data y (length args)) (first_value_of zs)) given_is)

    abbrev Ends : (ObjectId → ℕ) → ℕ
    Ends weight = of_references weight (references_ended facts frame.entries ts)

    ended_as : (weight : ObjectId → ℕ) → Ends weight ≡ of_references weight (references_ended_by facts frame.entries t)
    ended_as weight =
        let one_more : of_references weight (references_ended facts frame.entries (t ∷ [])) ≡ of_references weight (references_ended_by facts frame.entries t) + 0 =
        total_append weight (references_ended_by facts frame.entries t) [] in
        ap (λ us. of_references weight (references_ended facts frame.entries us)) taken_is ∙ (omega (arith, one_more))

    -- what isn't Owned takes nothing away, and what may end takes away what it names
    not_owned : (kind_at d f o.value ≡ kind.Owned → ⊥) → (weight : ObjectId → ℕ) → Ends weight ≡ 0
    not_owned never weight = ended_as weight ∙ keeps_one facts frame.entries weight t (ValueOf u) given_as_one (inr never)

    may_end : MayEnd d f o.value → (weight : ObjectId → ℕ) → Ends weight ≡ in_datum weight (ValueOf u)
    may_end may weight = ended_as weight ∙ gives_one facts frame.entries weight t (ValueOf u) given_as_one refl may (u, refl)

    guaranteed_plain : kind.Guaranteed ≡ kind.Owned → ⊥
    guaranteed_plain same = cc

    plain_owned : kind.Plain ≡ kind.Owned → ⊥
    plain_owned same = cc

    -- a case without a payload names nothing
    no_payload : (weight : ObjectId → ℕ) → [] ≡ payload_data u → in_datum weight (ValueOf u) ≡ 0
    no_payload weight none = by u chosen none
      where
        by : (z : Value) → IsCase z → [] ≡ payload_data z → in_datum weight (ValueOf z) ≡ 0
        by _ (IsCase.alone n) none = refl
        by _ (IsCase.carries n z) none = cc

    either : MayEnd d f o.value ⊎ (kind_at d f o.value ≡ kind.Guaranteed)
    either = by (kind_at d f o.value) refl
      where
        by : (q : Kind) → kind_at d f o.value ≡ q → MayEnd d f o.value ⊎ (kind_at d f o.value ≡ kind.Guaranteed)
        by kind.Owned same = inl (inl same)
        by kind.Plain same = inl (inr same)
        by kind.Guaranteed same = inr same

    lent_none : kind_at d f o.value ≡ kind.Guaranteed → (weight : ObjectId → ℕ) → Ends weight ≡ 0
    lent_none lent weight = not_owned (λ owned. guaranteed_plain (sym lent ∙ owned)) weight

    -- the block takes nothing
    takes_nothing : (xs : List Datum) → results_put facts [] xs ops.left ≡ Ok entries → xs ≡ switched_data y 0 u → (is_none y.case_of ≡ true → kind_at d f o.value ≡ kind.Plain)
        → (weight : ObjectId → ℕ) → of_references weight (references_begun facts [] xs) ≡ Ends weight
    takes_nothing (z ∷ xs) put' is' plain weight = absurd (cc)
    takes_nothing [] put' is' plain weight = by (is_none y.case_of) refl is' either
      where
        by : (b : Bool) → is_none y.case_of ≡ b → [] ≡ cond b (cond (0 == 0) [] (ValueOf u ∷ [])) (payload_data u)
            → MayEnd d f o.value ⊎ (kind_at d f o.value ≡ kind.Guaranteed) → 0 ≡ Ends weight
        by true default is'' k = sym (not_owned (λ owned. plain_owned (sym (plain default) ∙ owned)) weight)
        by false named is'' (inr lent) = sym (lent_none lent weight)
        by false named is'' (inl may) = sym (may_end may weight ∙ no_payload weight is'')

    -- what is carried to the one argument names what was switched
    carried_total : (b : BlockArg) (xs : List Datum) → results_put facts (map arg_value (b ∷ [])) xs ops.left ≡ Ok entries → xs ≡ switched_data y 1 u → (weight : ObjectId → ℕ)
        → Each IsValue xs × (in_data weight xs ≡ in_datum weight (ValueOf u))
    carried_total b xs put' is' weight = by (is_none y.case_of) is' u chosen
      where
        by : (c : Bool) → xs ≡ cond c (cond (1 == 0) [] (ValueOf u ∷ [])) (payload_data u) → (z : Value) → IsCase z → Each IsValue xs × (in_data weight xs ≡ in_datum weight (ValueOf u))
        by true is'' z c = subst (λ ys. Each IsValue ys × (in_data weight ys ≡ in_datum weight (ValueOf u))) (sym is'') (((u, refl), tt), total_cons (in_datum weight) (ValueOf u) [] ∙ plus)
          where
            plus : in_datum weight (ValueOf u) + 0 ≡ in_datum weight (ValueOf u)
            plus = omega arith
        by false is'' z c = named u chosen is''
          where
            none_put : results_put facts (map arg_value (b ∷ [])) [] ops.left ≡ Ok entries → ⊥
            none_put e = cc

            named : (z : Value) → IsCase z → xs ≡ payload_data z → Each IsValue xs × (in_data weight xs ≡ in_datum weight (ValueOf z))
            named _ (IsCase.alone n) none = absurd (none_put (subst (λ ys. results_put facts (map arg_value (b ∷ [])) ys ops.left ≡ Ok entries) none put'))
            named _ (IsCase.carries n z) some =
                let whole : in_data weight (ValueOf z ∷ []) ≡ in_datum weight (ValueOf z) + 0 = total_cons (in_datum weight) (ValueOf z) [] in
                subst (λ ys. Each IsValue ys × (in_data weight ys ≡ in_datum weight (ValueOf z))) (sym some) (((z, refl), tt), omega (arith, whole))

    -- the block takes one argument
    takes_one : (b : BlockArg) (xs : List Datum) → results_put facts (map arg_value (b ∷ [])) xs ops.left ≡ Ok entries → xs ≡ switched_data y 1 u
        → Takes d f o.value b → (weight : ObjectId → ℕ) → of_references weight (references_begun facts (map arg_value (b ∷ [])) xs) ≡ Ends weight
    takes_one b xs put' is' takes weight = by takes either
      where
        total : Each IsValue xs × (in_data weight xs ≡ in_datum weight (ValueOf u))
        total = carried_total b xs put' is' weight

        handed_on : MayHold facts frame.entries b.value → MayEnd d f o.value → of_references weight (references_begun facts (map arg_value (b ∷ [])) xs) ≡ Ends weight
        handed_on holds may =
            brings_all facts frame.entries [] (map arg_value (b ∷ [])) [] xs ops.left entries put' (holds, tt) total.0 weight ∙ total.1 ∙ sym (may_end may weight)

        only_lent : HoldsNothing facts frame.entries b.value → kind_at d f o.value ≡ kind.Guaranteed → of_references weight (references_begun facts (map arg_value (b ∷ [])) xs) ≡ Ends weight
        only_lent nothing lent = brings_none facts frame.entries [] (map arg_value (b ∷ [])) [] xs (nothing, tt) weight ∙ sym (lent_none lent weight)

        by : Takes d f o.value b → MayEnd d f o.value ⊎ (kind_at d f o.value ≡ kind.Guaranteed) → of_references weight (references_begun facts (map arg_value (b ∷ [])) xs) ≡ Ends weight
        by (Takes.owns may owned) k = handed_on (inl owned) may
        by (Takes.lends lent guaranteed bases) k = only_lent (λ owned. guaranteed_plain (sym guaranteed ∙ owned)) lent
        by (Takes.trivial bare plain) (inl may) = handed_on (inr plain) may
        by (Takes.trivial bare plain) (inr lent) = only_lent (λ owned. plain_owned (sym plain ∙ owned)) lent

    by_args : (bs : List BlockArg) (xs : List Datum) → results_put facts (map arg_value bs) xs ops.left ≡ Ok entries → xs ≡ switched_data y (length bs) u → TakenBy d f o.value y bs
        → (weight : ObjectId → ℕ) → of_references weight (references_begun facts (map arg_value bs) xs) ≡ Ends weight
    by_args [] xs put' is' takes weight = takes_nothing xs put' is' takes weight
    by_args (b ∷ []) xs put' is' takes weight = takes_one b xs put' is' takes weight
    by_args (b ∷ c ∷ bs) xs put' is' takes weight = absurd takes

    pub switch_balances : Balances
    switch_balances =
        so_balanced (by_args args carried put_so carried_is
        (switched m frame.function.0 f a e i y o.value stands.terminator at (switch_op i.op cases) (ap (λ os. option_map (λ (q : Operand). q.value) (slice_get os 0)) one)))
