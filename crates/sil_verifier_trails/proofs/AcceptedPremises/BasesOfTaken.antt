-- A value's bases are itself, and bases of what the item takes that makes it.
use Rattle.std.proofs.Common.{◌≡◌, ℕ, zero, suc, ◌<◌, List, [], ◌∷◌, ◌++◌, append-nil, length, map, refl, sym, ap, ◌∙◌, subst, arith, Bool, true, false, ◌||◌, ◌⊎◌, inl, inr, Option, Some, None}
use Rattle.std.specs.Prelude.{Contains, option_and_then, option_map, slice_get, unwrap_or}
use Rattle.std.specs.List.{list_any}
use Rattle.std.specs.Option.{option_to_list}
use Rattle.std.proofs.lemmas.Bool.{eqb-true, false≢true, true≢false}
use Rattle.std.proofs.lemmas.List.{length-replicate}
use Rattle.std.proofs.lemmas.List.Folds.{list_any-append}
use Rattle.std.proofs.lemmas.Option.{none-some, same_Some, slice_get-map}
use Rattle.sil_verifier_trails.specs.AcceptedTrails.inner.Bases.{IsBaseOf, rests_on}
use Rattle.sil_verifier_trails.proofs.AcceptedTrails.Tests.{or_right}
use Rattle.sil_verifier_values.specs.inner.Known.{IsAcceptedBody}
use Rattle.sil_verifier_values.specs.inner.Making.{IsMadeAt, argument, parameter, result}
use Rattle.sil_verifier_values.proofs.Accepted.{typed}
use Rattle.sil_verifier_values.proofs.Based.{from_operands}
use Rattle.sil_verifier_values.proofs.Counted.{nothing_in, stands}
use Rattle.sil_verifier_values.proofs.Made.{made_there}
use Rattle.sil_verifier_values.proofs.Switching.{Leaves, no_switch, only_switch, switch_of}
use Rattle.sil_verifier_values.proofs.TableRows.{argument_rows, result_rows}
use Rattle.argument_conventions.specs.declared.convention.ArgumentConvention.{ArgumentConvention}
use Rattle.instruction_table.specs.Forms.{ending_of, result_kind_of, roles_of}
use Rattle.instruction_table.specs.declared.entries.Ending.{Ending}
use Rattle.instruction_table.specs.declared.entries.Ending.TheVariants as ending
use Rattle.instruction_table.specs.declared.entries.ResultKind.{ResultKind}
use Rattle.instruction_table.specs.declared.entries.ResultKind.TheVariants.{AddressResult, ForwardedResult, NoneResult, OperandResult, OwnedResult, ScopeResult}
use Rattle.instruction_table.specs.declared.entries.Role.{Role}
use Rattle.instruction_table.specs.declared.entries.Role.TheVariants as role
use Rattle.instruction_table.specs.declared.op.Op.{Op}
use Rattle.instruction_table.specs.declared.op.Op.TheVariants as op
use Rattle.sil_cfg_items.specs.Items.{arg_value, item_taken, taken_along_in, taken_in}
use Rattle.sil_cfg_items.specs.Parts.{inst_at, item_edge, terminator_in, terminator_of}
use Rattle.sil_cfg_items.specs.Roles.{by_row, conventions_in, last_roles, roles_for, taken_by, taken_each}
use Rattle.sil_cfg_items.specs.declared.taken.Taken.{Taken}
use Rattle.sil_cfg_items.specs.declared.taken.Treatment.{Treatment}
use Rattle.numbered_form.proofs.Lists.{contained}
use Rattle.numbered_form.specs.inner.Parts.{has_operands}
use Rattle.sil_verifier_values.specs.ownership_kinds_chains.OwnershipChains.Chains.{operands_at}
use Rattle.sil_verifier_values.specs.ownership_kinds_chains.OwnershipChains.Facts.{has, known_or}
use Rattle.sil_verifier_values.specs.ownership_kinds_origins.Facts.{facts_in}
use Rattle.sil_verifier_values.specs.ownership_kinds_origins.Origins.{arg_definition_by, chain_operands, definitions_of, switch_operand}
use Rattle.sil_verifier_values.specs.ownership_kinds_origins.Switched.{switch_to}
use Rattle.sil_verifier_values.specs.ownership_kinds_origins.declared.switched.Switched.{Switched}
use Rattle.sil_verifier_values.proofs.holder_model_typing.RunTypingLaws.FunctionFacts.{TypedInst}
use Rattle.sil_ast.specs.Blocks.{args_of}
use Rattle.sil_ast.specs.declared.function.ArgKind.{ArgKind}
use Rattle.sil_ast.specs.declared.function.ArgKind.TheVariants as annotation
use Rattle.sil_ast.specs.declared.function.Block.{Block}
use Rattle.sil_ast.specs.declared.function.BlockArg.{BlockArg}
use Rattle.sil_ast.specs.declared.function.Function.{Function}
use Rattle.sil_ast.specs.declared.inst.Edge.{Edge}
use Rattle.sil_ast.specs.declared.inst.Inst.{Inst}
use Rattle.sil_ast.specs.declared.module.Module.{Module}
use Rattle.sil_ast.specs.declared.operands.Operand.{Operand}
use Rattle.sil_ast.specs.declared.place.EdgeId.{EdgeId}
use Rattle.sil_ast.specs.declared.place.PointId.{PointId}
use Rattle.sil_ast.specs.declared.place.ValueId.{ValueId}
use Rattle.sil_cfg.specs.Flow.{edge_to}
use Rattle.sil_cfg.specs.Items.{IsItem, flow_of, targets_in}
use Rattle.sil_cfg.specs.declared.item.Item.{Item}
use Rattle.sil_cfg.specs.declared.item.Item.TheVariants as items
use Rattle.sil_cfg.specs.inner.Splice.{Stop, is_at}
use Rattle.sil_cfg.proofs.Places.{same_item-true}
use Rattle.sil_verifier_values.specs.sil_types.Typing.SwitchRules.{has_wrong_cases_by, switches_wrongly}
use Rattle.sil_verifier_values.specs.sil_types_declarations.TypeDefinitions.Declarations.{Declarations, declarations_of}
use Rattle.numbered_form.specs.ValueTables.FirstValue.{first_value, value_of}
use Rattle.sil_verifier_trails.specs.AcceptedPremises.inner.Laws.{AreBasesOfTaken}
use Rattle.sil_verifier_trails.proofs.AcceptedPremises.MadeAtStops.{makes_so, stop_made}

-- ---- each operand is taken

-- a row's last role is that of one operand, or of any number alike
abbrev covers : List Role → Bool
covers [] = false
covers (role.ByParameter ∷ []) = false
covers (r ∷ []) = true
covers (r ∷ q ∷ rs) = covers (q ∷ rs)

last_enough : (r : Role) (cs : List ArgumentConvention) (n : ℕ) → covers (r ∷ []) ≡ true → length (last_roles r cs n) ≡ n
last_enough role.ByParameter cs n e = absurd (false≢true e)
last_enough role.Consumed cs n e = length-replicate n (by_row role.Consumed)
last_enough role.Used cs n e = length-replicate n (by_row role.Used)
last_enough role.Lent cs n e = length-replicate n (by_row role.Lent)
last_enough role.Forwarded cs n e = length-replicate n (by_row role.Forwarded)
last_enough role.AddressRole cs n e = length-replicate n (by_row role.AddressRole)
last_enough role.AnyRole cs n e = length-replicate n (by_row role.AnyRole)
last_enough role.ScopeRole cs n e = length-replicate n (by_row role.ScopeRole)
last_enough role.Counted cs n e = length-replicate n (by_row role.Counted)

roles_enough : (row : List Role) (cs : List ArgumentConvention) (n : ℕ) → covers row ≡ true → length (roles_for row cs n) ≡ n
roles_enough [] cs n e = absurd (false≢true e)
roles_enough (r ∷ []) cs n e = last_enough r cs n e
roles_enough (r ∷ q ∷ rs) cs zero e = refl
roles_enough (r ∷ q ∷ rs) cs (suc n) e = ap suc (roles_enough (q ∷ rs) cs n e)

any_taken : (test : ValueId → Bool) (os : List Operand) (ts : List Treatment) (k : ℕ) (w : ValueId) → slice_get (map value_of os) k ≡ Some w → test w ≡ true →
    length ts ≡ length os → list_any (λ (x : Taken). test x.value) (taken_each os ts) ≡ true
any_taken test [] ts k w e h size = absurd (none-some w e)
any_taken test (o ∷ os) [] k w e h size = absurd (omega arith)
any_taken test (o ∷ os) (t ∷ ts) zero w e h size =
    ap (λ b. b || list_any (λ (x : Taken). test x.value) (taken_each os ts)) (ap test (same_Some o.value w e) ∙ h)
any_taken test (o ∷ os) (t ∷ ts) (suc k) w e h size =
    or_right (test o.value) (list_any (λ (x : Taken). test x.value) (taken_each os ts)) (any_taken test os ts k w e h (omega arith))

taken_of : (test : ValueId → Bool) (x : Inst) (w : ValueId) → covers (roles_of x.op) ≡ true → Contains (map value_of x.operands) w → test w ≡ true →
    list_any (λ (y : Taken). test y.value) (taken_by x) ≡ true
taken_of test x w row c h =
    let place = stands (map value_of x.operands) w c in
    any_taken test x.operands (roles_for (roles_of x.op) (conventions_in x) (length x.operands)) place.0 w place.1 h
    (roles_enough (roles_of x.op) (conventions_in x) (length x.operands) row)

-- ---- chains go on to operands

abbrev is_chained : ResultKind → Bool
is_chained NoneResult = false
is_chained OwnedResult = false
is_chained ScopeResult = false
is_chained AddressResult = true
is_chained ForwardedResult = true
is_chained OperandResult = true

chained : (k : ResultKind) (vs : List ValueId) (w : ValueId) → Contains (chain_operands k vs) w → (is_chained k ≡ true) × Contains vs w
chained NoneResult vs w c = absurd (nothing_in w c)
chained OwnedResult vs w c = absurd (nothing_in w c)
chained ScopeResult vs w c = absurd (nothing_in w c)
chained AddressResult vs w c = (refl, c)
chained ForwardedResult vs w c = (refl, c)
chained OperandResult vs w c = (refl, c)

-- `alloc_stack` has no operands
covers_chained : (o : Op) → is_chained (result_kind_of o) ≡ true → (covers (roles_of o) ≡ true) ⊎ (o ≡ op.AllocStack)
covers_chained op.AllocStack e = inr refl
covers_chained _ e = inl (cc)

no_operands : (os : List Operand) → has_operands op.AllocStack os ≡ true → os ≡ []
no_operands [] e = refl
no_operands (o ∷ os) e = cc

entry_none : (k : ArgKind) (s : Option Switched) (trivial : Bool) → (arg_definition_by true s k trivial).operands ≡ []
entry_none annotation.Plain s trivial = refl
entry_none annotation.Owned s trivial = refl
entry_none annotation.Guaranteed s trivial = refl

switched_operand : (s : Option Switched) (w : ValueId) → Contains (map switch_operand (option_to_list s)) w → (x : Switched) × (s ≡ Some x) × (x.operand ≡ w)
switched_operand None w c = absurd (nothing_in w c)
switched_operand (Some x) w c = let place = stands (x.operand ∷ []) w c in at place.0 place.1
  where
    at : (k : ℕ) → slice_get (x.operand ∷ []) k ≡ Some w → (y : Switched) × (Some x ≡ Some y) × (y.operand ≡ w)
    at zero e = (x, refl, same_Some x.operand w e)
    at (suc k) e = absurd (none-some w e)

inner_switched : (k : ArgKind) (s : Option Switched) (trivial : Bool) (w : ValueId) → Contains (arg_definition_by false s k trivial).operands w → (x : Switched) × (s ≡ Some x) × (x.operand ≡ w)
inner_switched annotation.Plain s trivial w c = absurd (nothing_in w c)
inner_switched annotation.Owned s trivial w c = absurd (nothing_in w c)
inner_switched annotation.Guaranteed s trivial w c = switched_operand s w c

arg_there : (args : List BlockArg) (k : ℕ) (v : ValueId) → slice_get (map arg_value args) k ≡ Some v → (x : BlockArg) × (slice_get args k ≡ Some x) × (x.value ≡ v)
arg_there [] k v e = absurd (none-some v e)
arg_there (x ∷ args) zero v e = (x, refl, same_Some x.value v e)
arg_there (x ∷ args) (suc k) v e = arg_there args k v e

is_cases : (e : Ending) → (e ≡ ending.Cases) ⊎ (e ≡ ending.Cases → ⊥)
is_cases ending.Inside = inr (λ e. cc)
is_cases ending.OneBranch = inr (λ e. cc)
is_cases ending.TwoBranches = inr (λ e. cc)
is_cases ending.Cases = inl refl
is_cases ending.Return = inr (λ e. cc)
is_cases ending.Unreachable = inr (λ e. cc)

edge_found : (edges : List Edge) (k : ℕ) → k < length (map (λ (e : Edge). e.block.0) edges) → (x : Edge) × (slice_get edges k ≡ Some x)
edge_found [] k lt = absurd (omega arith)
edge_found (e ∷ edges) zero lt = (e, refl)
edge_found (e ∷ edges) (suc k) lt = edge_found edges k (omega arith)

leaves_there : (f : Function) (e : EdgeId) → IsItem f (items.Edge e) → (t : Inst) × (x : Edge) × Leaves f e.block.0 e.index t x × (edge_to (flow_of f) e ≡ x.block.0)
leaves_there f e lt = at (slice_get f.blocks e.block.0) refl lt
  where
    at : (o : Option Block) → slice_get f.blocks e.block.0 ≡ o → e.index < length (targets_in o)
        → (t : Inst) × (x : Edge) × Leaves f e.block.0 e.index t x × (unwrap_or (slice_get (targets_in o) e.index) 0 ≡ x.block.0)
    at None is h = absurd (omega arith)
    at (Some block) is h =
        let x = edge_found block.terminator.edges e.index h in (
          block.terminator,
          x.0,
          record { block = block; is_block = is; ends = refl; there = x.1 },
          ap (λ (o : Option ℕ). unwrap_or o 0)
              (slice_get-map (λ (y : Edge). y.block.0) block.terminator.edges e.index ∙ ap (option_map (λ (y : Edge). y.block.0)) x.1),
        )

module _ (m : Module) (n : ℕ) (f : Function) (a : IsAcceptedBody m n f) where
  abbrev d : Declarations
  d = declarations_of m

  -- a switch has an operand
  has_operand : (b : ℕ) (t : Inst) → terminator_of f b ≡ Some t → ending_of t.op ≡ ending.Cases → first_value t ≡ None → ⊥
  has_operand b t there switches none =
      let end = (typed m n f a).ends b t there in
      let known : TypedInst m f t = (typed m n f a).insts b end.0 t end.2 in
      let right : has_wrong_cases_by op.SwitchEnum d f t ≡ false = ap (λ o. has_wrong_cases_by o d f t) (sym (only_switch t.op switches)) ∙ known.cases in
      at (slice_get t.operands 0) none right
    where
      at : (o : Option Operand) → option_map value_of o ≡ None → switches_wrongly d f t.edges (option_and_then (λ x. x.ty) o) ≡ false → ⊥
      at None e h = true≢false h
      at (Some x) e h = none-some x.value (sym e)

  module _ (v w b : ValueId) (chain : Contains (operands_at (definitions_of d f) v) w) (base : IsBaseOf d f b w) where
    abbrev rests : ValueId → Bool
    rests u = has (known_or (facts_in d f) u).bases b.0

    abbrev TakesIt : Item → Type 0
    TakesIt i = list_any (rests_on d f b) (item_taken f i) ≡ true

    by_result : (p : PointId) (x : Inst) (k : ℕ) → inst_at f p ≡ Some x → slice_get x.results k ≡ Some v → TakesIt (items.Inst p)
    by_result p x k there at =
        let row = result_rows m n f a p.block.0 p.index k x v ((typed m n f a).inside p x there).1 at in
        let c = chained (result_kind_of x.op) (map value_of x.operands) w (subst (λ vs. Contains vs w) row.defined.operands chain) in
        ap (λ o. list_any (rests_on d f b) (taken_in o ++ [])) there ∙ ap (list_any (rests_on d f b)) (append-nil (taken_by x))
        ∙ taken_of rests x w (covered c.1 (covers_chained x.op c.0)) c.1 base
      where
        covered : Contains (map value_of x.operands) w → (covers (roles_of x.op) ≡ true) ⊎ (x.op ≡ op.AllocStack) → covers (roles_of x.op) ≡ true
        covered c (inl row) = row
        covered c (inr stack) =
            let parts = ((typed m n f a).inside p x there).0.parts.operands in
            let none = no_operands x.operands (subst (λ o. has_operands o x.operands ≡ true) stack parts) in
            absurd (nothing_in w (subst (λ os. Contains (map value_of os) w) none c))

    no_parameter : (k : ℕ) (x : BlockArg) → slice_get (args_of f 0) k ≡ Some x → x.value ≡ v → ⊥
    no_parameter k x there is =
        let row = argument_rows m n f a 0 k x there in
        nothing_in w (subst (λ vs. Contains vs w) (ap (operands_at (definitions_of d f)) (sym is) ∙ row.defined.operands ∙ entry_none x.kind (switch_to f 0) _) chain)

    switched_to : (c k : ℕ) (x : BlockArg) → 0 < c → slice_get (args_of f c) k ≡ Some x → x.value ≡ v → (s : Switched) × (switch_to f c ≡ Some s) × (s.operand ≡ w)
    switched_to zero k x lt there is = absurd (omega arith)
    switched_to (suc c) k x lt there is =
        let row = argument_rows m n f a (suc c) k x there in
        inner_switched x.kind (switch_to f (suc c)) _ w (subst (λ vs. Contains vs w) (ap (operands_at (definitions_of d f)) (sym is) ∙ row.defined.operands) chain)

    by_edge : (e : EdgeId) (t : Inst) (x : Edge) → Leaves f e.block.0 e.index t x → (s : Switched) → switch_to f x.block.0 ≡ Some s → s.operand ≡ w → TakesIt (items.Edge e)
    by_edge e t x from s there is = at (is_cases (ending_of t.op))
      where
        terminator : terminator_of f e.block.0 ≡ Some t
        terminator = ap terminator_in from.is_block ∙ ap (λ i. Some i) from.ends

        taken : ending_of t.op ≡ ending.Cases → Contains (map value_of t.operands) w → TakesIt (items.Edge e)
        taken switches c =
            let row : covers (roles_of t.op) ≡ true = ap (λ o. covers (roles_of o)) (only_switch t.op switches) in
            list_any-append (rests_on d f b) (taken_in (terminator_of f e.block.0)) (taken_along_in (item_edge f (items.Edge e)))
            ∙ ap (λ y. y || list_any (rests_on d f b) (taken_along_in (item_edge f (items.Edge e))))
            (ap (λ o. list_any (rests_on d f b) (taken_in o)) terminator ∙ taken_of rests t w row c base)

        operand : ending_of t.op ≡ ending.Cases → (o : Option ValueId) → first_value t ≡ o → TakesIt (items.Edge e)
        operand switches None none = absurd (has_operand e.block.0 t terminator switches none)
        operand switches (Some u) first =
            let so = switch_of m n f a e.block.0 e.index t x u from switches first in
            let same : u ≡ w = ap (λ (y : Switched). y.operand) (same_Some _ s (sym so ∙ there)) ∙ is in
            taken switches (contained (map value_of t.operands) 0 w (slice_get-map value_of t.operands 0 ∙ first ∙ ap (λ (y : ValueId). Some y) same))

        at : (ending_of t.op ≡ ending.Cases) ⊎ (ending_of t.op ≡ ending.Cases → ⊥) → TakesIt (items.Edge e)
        at (inl switches) = operand switches (first_value t) refl
        at (inr branches) = absurd (none-some s (sym (no_switch m n f a e.block.0 e.index t x from branches) ∙ there))

    at_stop : (s : Stop) (i : Item) → IsMadeAt f v s → IsItem f i → is_at (flow_of f) s i ≡ true → TakesIt i
    at_stop _ i (result p x there c) is h = let k = stands x.results v c in subst TakesIt (sym (same_item-true i (items.Inst p) h)) (by_result p x k.0 there k.1)
    at_stop _ i (parameter c) is h =
        let k = stands (map arg_value (args_of f 0)) v c in
        let x = arg_there (args_of f 0) k.0 v k.1 in
        absurd (no_parameter k.0 x.0 x.1 x.2)
    at_stop _ items.Entry (argument c lt there) is h = absurd (false≢true h)
    at_stop _ (items.Inst p) (argument c lt there) is h = absurd (false≢true h)
    at_stop _ (items.Exit p) (argument c lt there) is h = absurd (false≢true h)
    at_stop _ (items.Edge e) (argument c lt there) is h =
        let k = stands (map arg_value (args_of f c)) v there in
        let x = arg_there (args_of f c) k.0 v k.1 in
        let s = switched_to c k.0 x.0 lt x.1 x.2 in
        let l = leaves_there f e is in
        let to : c ≡ l.1.block.0 = sym (eqb-true (edge_to (flow_of f) e) c h) ∙ l.3 in
        by_edge e l.0 l.1 l.2 s.0 (ap (switch_to f) (sym to) ∙ s.1) s.2

pub bases_of_taken : AreBasesOfTaken
bases_of_taken m n f a i v b is made base = at (from_operands m n f a v b base)
  where
    at : (b ≡ v) ⊎ ((w : ValueId) × Contains (operands_at (definitions_of (declarations_of m) f) v) w × IsBaseOf (declarations_of m) f b w)
        → (b.0 ≡ v.0) ⊎ (list_any (rests_on (declarations_of m) f b) (item_taken f i) ≡ true)
    at (inl same) = inl (ap (λ (u : ValueId). u.0) same)
    at (inr x) =
        let s = stop_made m n f a i v made in
        inr (at_stop m n f a v x.0 b x.1 x.2 s.0 i s.1 is ((made_there m n f a v s.0 i s.1 is).0 (makes_so f v i made)))
