-- What an instruction lends anew is guarded.
use Rattle.std.proofs.Common.{◌≡◌, ℕ, zero, suc, ◌+◌, ◌≤◌, List, [], ◌∷◌, ◌++◌, append-nil, map, refl, sym, ap, ◌∙◌, subst, Bool, true, false, cond, ◌||◌, ◌⊎◌, inl, inr, ⊎_elim}
use Rattle.std.proofs.Common.{Option, Some, None, Ok, arith, eq-eqb}
use Rattle.std.specs.Prelude.{Contains, length, slice_get}
use Rattle.std.specs.List.{list_any}
use Rattle.std.proofs.lemmas.Bool.{cases_Bool, false≢true}
use Rattle.std.proofs.lemmas.Option.{same_Some, slice_get-map}
use Rattle.sil_cfg_items.specs.Items.{item_defined, item_taken, taken_in}
use Rattle.sil_cfg_items.specs.Parts.{inst_at, results_in}
use Rattle.sil_cfg_items.specs.Roles.{by_row, conventions_in, roles_for, taken_as, taken_by, taken_each}
use Rattle.sil_cfg_items.specs.declared.taken.Taken.{Taken}
use Rattle.sil_cfg_items.specs.declared.taken.Treatment.{Treatment}
use Rattle.instruction_table.specs.Forms.{result_kind_of, roles_of}
use Rattle.instruction_table.specs.declared.entries.ResultKind.{ResultKind}
use Rattle.instruction_table.specs.declared.entries.ResultKind.TheVariants.{AddressResult, ForwardedResult, OperandResult, OwnedResult, ScopeResult}
use Rattle.instruction_table.specs.declared.entries.Role.TheVariants as role
use Rattle.numbered_form.specs.Lists.{Each}
use Rattle.sil_verifier_frames.specs.ownership_kinds_chains.OwnershipChains.Chains.{operands_at}
use Rattle.sil_verifier_frames.specs.ownership_kinds_chains.OwnershipChains.Facts.{has, is_guaranteed, is_owned, known_or}
use Rattle.sil_verifier_frames.specs.ownership_kinds_chains.declared.ownership_chains.definition.Origin.TheVariants as origin
use Rattle.sil_verifier_frames.specs.ownership_kinds_chains.declared.ownership_chains.facts.Facts.{Facts}
use Rattle.sil_verifier_frames.specs.ownership_kinds_chains.OwnershipMarks.Marks.{ends_owned}
use Rattle.sil_ast.specs.declared.function.Function.{Function}
use Rattle.sil_ast.specs.declared.inst.Inst.{Inst}
use Rattle.sil_ast.specs.declared.module.Module.{Module}
use Rattle.sil_ast.specs.declared.operands.Operand.{Operand}
use Rattle.sil_ast.specs.declared.place.ObjectId.{ObjectId}
use Rattle.sil_ast.specs.declared.place.PointId.{PointId}
use Rattle.sil_ast.specs.declared.place.ValueId.{ValueId}
use Rattle.sil_cfg.specs.declared.item.Item.{Item}
use Rattle.sil_cfg.specs.declared.item.Item.TheVariants as item
use Rattle.sil_types_declarations.specs.TypeDefinitions.Declarations.{Declarations, declarations_of}
use Rattle.sil_types_declarations.specs.declared.type_definitions.kind.Kind.{Kind}
use Rattle.sil_types_declarations.specs.declared.type_definitions.kind.Kind.TheVariants as kind
use Rattle.holder_model_values.specs.RunValues.Memory.{Memory}
use Rattle.holder_model_values.specs.RunValues.Places.{Home}
use Rattle.holder_model_values.specs.RunValues.Shapes.{Shape}
use Rattle.holder_model_values.specs.RunValues.Memory.{new_object}
use Rattle.holder_model_values.specs.RunValues.Values.{Case, Full, Object, Value, grouped, references_of}
use Rattle.numbered_form.specs.ValueTables.Borrows.{borrow_at, borrow_by, borrow_in, borrows, borrows_of, is_borrow, lends, takes_address}
use Rattle.numbered_form.specs.ValueTables.FirstValue.{first_value, value_of}
use Rattle.sil_verifier_frames.specs.sil_verifier_trails.AcceptedTrails.inner.Bases.{IsBaseOf}
use Rattle.sil_verifier_frames.specs.sil_verifier_trails.AcceptedTrails.inner.Lives.{BorrowsFrom}
use Rattle.sil_verifier_frames.specs.sil_verifier_trails.AcceptedTrails.inner.Passing.{is_end}
use Rattle.sil_verifier_frames.specs.borrow_scopes.Scopes.{bases_in}
use Rattle.sil_verifier_frames.specs.sil_types.Typing.RowTypes.{made_types}
use Rattle.sil_verifier_frames.specs.holder_model.RunTyping.CallForms.{IsOf}
use Rattle.numbered_form.specs.PointChecks.Points.{IsAt}
use Rattle.sil_verifier_frames.specs.ownership_kinds_origins.Facts.{facts_in}
use Rattle.sil_verifier_frames.specs.ownership_kinds_origins.Origins.{chain_operands, definitions_of, is_trivial_or_untyped, result_origin}
use Rattle.sil_verifier_frames.specs.sil_verifier_values.inner.Known.{IsAcceptedBody, IsValue, facts_at, kind_at, type_in}
use Rattle.sil_verifier_frames.specs.sil_verifier_values.inner.Operands.{kind_by_row, kind_of_result, kind_together}
use Rattle.sil_verifier_frames.specs.sil_verifier_values.inner.Rows.{IsResult}
use Rattle.sil_verifier_frames.proofs.sil_verifier_values.Accepted.{typed}
use Rattle.sil_verifier_frames.proofs.sil_verifier_values.Addresses.{addresses_of_lenders}
use Rattle.sil_verifier_frames.proofs.sil_verifier_values.Based.{bases_of_addresses, handed_on, owned_own_bases}
use Rattle.sil_verifier_frames.proofs.sil_verifier_values.Made.{items_of}
use Rattle.sil_verifier_frames.proofs.sil_verifier_values.Suited.{results_of_kinds}
use Rattle.sil_verifier_frames.proofs.sil_verifier_values.TableRows.{result_rows}
use Rattle.numbered_form.proofs.Lists.{contained}
use Rattle.sil_verifier_frames.proofs.holder_model_typing.RunTypingLaws.ItemFacts.{values_counted}
use Rattle.sil_verifier_frames.specs.holder_model.declared.row_effect.RowEffect.{RowEffect}
use Rattle.sil_verifier_frames.specs.holder_model.declared.row_effect.RowEffect.TheVariants as row
use Rattle.sil_verifier_frames.specs.holder_model.Data as given
use Rattle.sil_verifier_frames.specs.holder_model.Data.{AddressOf, Datum, FunctionOf, ValueOf, home_references, references_in}
use Rattle.sil_verifier_frames.specs.holder_model.Effects.{Change, effect_of}
use Rattle.sil_verifier_frames.specs.holder_model.Frames.{Entry, Lent, Operands, datum_in, ends, entry_at}
use Rattle.sil_verifier_frames.specs.holder_model.Frames.{made_entry, operands_of, without_ended}
use Rattle.sil_verifier_frames.specs.holder_model.Holders.{of_references, one_object}
use Rattle.sil_verifier_frames.specs.holder_model.ModuleShapes.{ModuleShapes}
use Rattle.sil_verifier_frames.specs.holder_model_laws.HolderLaws.inner.Counts.Doing.{Leaves}
use Rattle.sil_verifier_frames.specs.holder_model_laws.HolderLaws.inner.Counts.Doing as doing
use Rattle.sil_verifier_frames.specs.holder_model_laws.HolderLaws.inner.Counts.Naming.{in_data, in_datum}
use Rattle.sil_verifier_frames.proofs.holder_model_laws.HolderLaws.Counts.Alive.{member_home, member_named, members_named, object_references, values_named}
use Rattle.sil_verifier_frames.proofs.holder_model_laws.HolderLaws.Counts.Changes.{changes_told}
use Rattle.sil_verifier_frames.proofs.holder_model_laws.HolderLaws.Counts.Sums.{total_cons}
use Rattle.sil_verifier_runs.specs.inner.Guarded.Guards.{AreLentGuarded, AreOfKinds, IsCurrent, IsGuarded, IsNamed, Lending, owner}
use Rattle.sil_verifier_runs.specs.inner.Guarded.Kept.{IsNewlyGuarded}
use Rattle.sil_verifier_runs.specs.inner.Guarded.Kept as kept
use Rattle.sil_verifier_runs.specs.inner.Guarded.Rows.{AreRowsGuarded, HandsValues, LendsLoaded}
use Rattle.sil_verifier_runs.proofs.Guarded.Ended.{unended_stays}
use Rattle.sil_verifier_frames.proofs.sil_verifier_trails.ScopedAddresses.OwnScopes.{own_scope}
use Rattle.sil_verifier_runs.proofs.Guarded.Named.{named_nowhere}
use Rattle.sil_verifier_runs.proofs.Guarded.RowTables.{Gives, Opens}
use Rattle.sil_verifier_runs.proofs.Guarded.RowTables as table
use Rattle.sil_verifier_runs.proofs.Guarded.Sources as sources
use Rattle.sil_verifier_runs.proofs.Guarded.Sources.{ended_fact, held, lends_it, named_datum, value_lent}

-- an operand of an instruction, with what is done to it
taken_at : (os : List Operand) (ts : List Treatment) (k : ℕ) (t : Taken) → slice_get (taken_each os ts) k ≡ Some t
    → (slice_get (map value_of os) k ≡ Some t.value) × ((r : Treatment) × (slice_get ts k ≡ Some r) × (t.role ≡ r.role))
taken_at [] ts k t e = cc
taken_at (o ∷ os) [] k t e = cc
taken_at (o ∷ os) (r ∷ ts) zero t e =
    let same : taken_as o r ≡ t = cc in (ap (λ (u : Taken). Some u.value) same, (r, refl, sym (ap (λ (u : Taken). u.role) same)))
taken_at (o ∷ os) (r ∷ ts) (suc k) t e = taken_at os ts k t e

abbrev y_is : Value → Datum
y_is y = ValueOf y

mapped : (ys : List Value) (k : ℕ) (x : Datum) → slice_get (map ValueOf ys) k ≡ Some x → (z : Value) × (y_is z ≡ x)
mapped [] k x e = cc
mapped (y ∷ ys) zero x e = (y, same_Some (ValueOf y) x e)
mapped (y ∷ ys) (suc k) x e = mapped ys k x e

-- what one datum names is among what all do
one_most : (o : ObjectId) (xs : List Datum) (k : ℕ) (x : Datum) → slice_get xs k ≡ Some x → of_references (one_object o) (references_in x) ≤ in_data (one_object o) xs
one_most o [] k x e = cc
one_most o (y ∷ xs) zero x e =
    let whole : in_data (one_object o) (y ∷ xs) ≡ in_datum (one_object o) y + in_data (one_object o) xs = total_cons (in_datum (one_object o)) y xs in
    let same : in_datum (one_object o) y ≡ in_datum (one_object o) x = ap (in_datum (one_object o)) (same_Some y x e) in
    omega (arith, whole, same)
one_most o (y ∷ xs) (suc k) x e =
    let whole : in_data (one_object o) (y ∷ xs) ≡ in_datum (one_object o) y + in_data (one_object o) xs = total_cons (in_datum (one_object o)) y xs in
    let rest : of_references (one_object o) (references_in x) ≤ in_data (one_object o) xs = one_most o xs k x e in
    omega (arith, whole, rest)

value_datum : (x : Datum) (v : Value) → given.as_value x ≡ Some v → x ≡ ValueOf v
value_datum (ValueOf y) v h = ap ValueOf (same_Some y v h)
value_datum (AddressOf p) v h = cc
value_datum (FunctionOf g) v h = cc

more_values : (y : Option Value) (vs : Option (List Value)) (ws : List Value) → given.with_first y vs ≡ Some ws → (z : Value) × (zs : List Value) × (y ≡ Some z) × (vs ≡ Some zs)
more_values None vs ws h = cc
more_values (Some z) None ws h = cc
more_values (Some z) (Some zs) ws h = (z, zs, refl, refl)

-- where all are values, so is each
all_values : (xs : List Datum) (vs : List Value) → given.values_of xs ≡ Some vs → (k : ℕ) (x : Datum) → slice_get xs k ≡ Some x → (y : Value) × (x ≡ ValueOf y)
all_values [] vs h k x e = cc
all_values (z ∷ xs) vs h zero x e =
    let p = more_values (given.as_value z) (given.values_of xs) vs h in (p.0, sym (same_Some z x e) ∙ value_datum z p.0 p.2)
all_values (z ∷ xs) vs h (suc k) x e = let p = more_values (given.as_value z) (given.values_of xs) vs h in all_values xs p.1 p.3 k x e

second_true : (a b : Bool) → b ≡ true → (a || b) ≡ true
second_true true b h = refl
second_true false b h = h

any_slice : (test : ValueId → Bool) (vs : List ValueId) (k : ℕ) (v : ValueId) → slice_get vs k ≡ Some v → test v ≡ true → list_any test vs ≡ true
any_slice test [] k v e h = cc
any_slice test (w ∷ vs) zero v e h = let same : w ≡ v = cc in ap (λ b. b || list_any test vs) (ap test same ∙ h)
any_slice test (w ∷ vs) (suc k) v e h = second_true (test w) (list_any test vs) (any_slice test vs k v e h)

module _ (m : Module) (n : ℕ) (f : Function) (a : IsAcceptedBody m n f) (p : PointId) (i : Inst) (there : inst_at f p ≡ Some i)
    (shapes : ModuleShapes) (values : List Shape) (lending lending' : Lending) (memory : Memory) (entries : List Entry) (t : List Item) (ops : Operands) (c : Change)
    (ops_are : operands_of (facts_in (declarations_of m) f) memory entries (item_taken f (item.Inst p)) ≡ Ok ops)
    (kinds : AreOfKinds (declarations_of m) f entries) (lent : AreLentGuarded (declarations_of m) f lending memory ops.left t)
    (current : Each (λ (x : Taken). IsCurrent (declarations_of m) f lending memory entries t x.value) (item_taken f (item.Inst p))) where
  abbrev d : Declarations
  d = declarations_of m

  abbrev facts : ValueId → Option Facts
  facts = facts_in d f

  taken_is : item_taken f (item.Inst p) ≡ taken_by i
  taken_is = ap (λ o. taken_in o ++ []) there ∙ append-nil (taken_by i)

  defined_is : item_defined f (item.Inst p) ≡ i.results
  defined_is = ap (λ o. results_in o ++ []) there ∙ append-nil i.results

  left_is : without_ended facts (item_taken f (item.Inst p)) entries ≡ Ok ops.left
  left_is = sources.left_is m n f a (item.Inst p) (taken_by i) taken_is lending memory entries t ops ops_are kinds lent current

  at_point : IsAt f p.block.0 p.index i
  at_point = ((typed m n f a).inside p i there).1

  no_scope_role : (effect_of i.op ≡ row.NoEffect → ⊥) → (k : ℕ) (x : Taken) → slice_get (taken_by i) k ≡ Some x → table.is_scope_role x.role ≡ true → ⊥
  no_scope_role effective k x e h =
      let r = (taken_at i.operands (roles_for (roles_of i.op) (conventions_in i) (length i.operands)) k x e).1 in
      effective (table.scope_row i.op (table.role_of_row (roles_of i.op) (conventions_in i) (length i.operands) k r.0 r.1 (ap table.is_scope_role (sym r.2) ∙ h)))

  ended_among : (v : ValueId) → list_any (is_end facts v) (item_taken f (item.Inst p)) ≡ true
      → (k : ℕ) × (x : Taken) × (slice_get (taken_by i) k ≡ Some x) × (ends facts x ≡ true) × (x.value ≡ v)
  ended_among v h = sources.ended_among m n f a (item.Inst p) (taken_by i) taken_is lending memory entries t ops ops_are kinds lent current v h

  abbrev IsSource : ObjectId → Datum → Type 0
  IsSource o y = sources.IsSource m n f a (item.Inst p) (taken_by i) taken_is lending memory entries t ops ops_are kinds lent current o y

  source_of : (o : ObjectId) (k : ℕ) (y : Datum) → slice_get ops.given k ≡ Some y → IsNamed o (references_in y) → IsSource o y
  source_of o k y e named = sources.source_of m n f a (item.Inst p) (taken_by i) taken_is lending memory entries t ops ops_are kinds lent current o k y e named

  is_operand : (o : ObjectId) (y : Datum) (src : IsSource o y) → slice_get (map value_of i.operands) src.k ≡ Some src.taken.value
  is_operand o y src = (taken_at i.operands (roles_for (roles_of i.op) (conventions_in i) (length i.operands)) src.k src.taken src.is_taken).0

  lent_guarded : (effect_of i.op ≡ row.NoEffect → ⊥) → (o : ObjectId) (y : Datum) (src : IsSource o y) → entry_at entries src.taken.value ≡ Lent y
      → (kind_at d f src.taken.value ≡ kind.Owned → ⊥) → IsGuarded d f lending memory ops.left o src.taken.value
  lent_guarded effective o y src e not_owned =
      sources.lent_guarded m n f a (item.Inst p) (taken_by i) taken_is lending memory entries t ops ops_are kinds lent current (no_scope_role effective) o y src e not_owned

  abbrev Form : ValueId → Datum → Type 0
  Form w y = sources.Form m n f a (item.Inst p) (taken_by i) taken_is lending memory entries t ops ops_are kinds lent current w y

  form_of : (o : ObjectId) (w : ValueId) (y : Datum) → datum_in (entry_at entries w) ≡ Some y → IsNamed o (references_in y) → Form w y
  form_of o w y e named = sources.form_of m n f a (item.Inst p) (taken_by i) taken_is lending memory entries t ops ops_are kinds lent current o w y e named

  -- ---- a result

  module _ (k : ℕ) (v : ValueId) (x : Datum) (o : ObjectId) (result : slice_get i.results k ≡ Some v) (named : IsNamed o (references_in x)) where
    abbrev Newly : Type 0
    Newly = IsNewlyGuarded d f lending lending' memory c.memory ops.left o v

    rows : IsResult d f i k v
    rows = result_rows m n f a p.block.0 p.index k i v at_point result

    abbrev trivial : Bool
    trivial = is_trivial_or_untyped d (type_in d f v)

    abbrev made_trivial : Bool
    made_trivial = is_trivial_or_untyped d (slice_get (made_types d i) k)

    kind_is : kind_at d f v ≡ kind_of_result d f i trivial
    kind_is = results_of_kinds m n f a p.block.0 p.index k i v at_point result

    kind_with : (r : ResultKind) → result_kind_of i.op ≡ r → kind_at d f v ≡ cond trivial kind.Plain (kind_by_row r (kind_together d f i))
    kind_with r e = kind_is ∙ ap (λ q. cond trivial kind.Plain (kind_by_row q (kind_together d f i))) e

    not_plain_or : (q : Kind) → (q ≡ kind.Guaranteed → ⊥) → kind_at d f v ≡ cond trivial kind.Plain q → kind_at d f v ≡ kind.Guaranteed → ⊥
    not_plain_or q not e guaranteed = at trivial (sym e ∙ guaranteed)
      where
        at : (b : Bool) → cond b kind.Plain q ≡ kind.Guaranteed → ⊥
        at true h = cc
        at false h = not h

    owned_result : result_kind_of i.op ≡ OwnedResult → kind_at d f v ≡ kind.Guaranteed → ⊥
    owned_result e guaranteed = not_plain_or kind.Owned (λ h. cc) (kind_with OwnedResult e) guaranteed

    -- a scope
    opened : result_kind_of i.op ≡ ScopeResult → borrow_in (borrows_of f) v.0 ≡ borrow_at (takes_address (roles_of i.op)) (first_value i)
    opened e = rows.borrow ∙ ap (λ r. borrow_by r i) e

    any_borrows : (b : Bool) (w : Option ValueId) → borrows (borrow_at b w) ≡ true
    any_borrows true w = refl
    any_borrows false None = refl
    any_borrows false (Some w) = refl

    is_scope : result_kind_of i.op ≡ ScopeResult → is_borrow f v ≡ true
    is_scope e = ap borrows (opened e) ∙ any_borrows (takes_address (roles_of i.op)) (first_value i)

    own : is_borrow f v ≡ true → IsBaseOf d f v v
    own borrow = (own_scope m n f a v borrow).own

    -- ---- handed on

    together_owned : (w : ValueId) (j : ℕ) → slice_get (map value_of i.operands) j ≡ Some w → kind_at d f w ≡ kind.Owned → kind_together d f i ≡ kind.Owned
    together_owned w j e owned =
        ap (λ b. cond b kind.Owned (cond (list_any (λ u. is_guaranteed (facts_at d f u).kind) (map value_of i.operands)) kind.Guaranteed kind.Plain))
        (any_slice (λ u. is_owned (facts_at d f u).kind) (map value_of i.operands) j w e (ap is_owned owned))

    handing : (q : ResultKind) → result_kind_of i.op ≡ q → ((z : Kind) → kind_by_row q z ≡ z) → ((vs : List ValueId) → chain_operands q vs ≡ vs)
        → ((b : Bool) → result_origin q b ≡ origin.Lender → ⊥) → (effect_of i.op ≡ row.NoEffect → ⊥) → kind_at d f v ≡ kind.Guaranteed → (y : Value) → IsSource o (ValueOf y) → Newly
    handing q is same chain no_lender effective guaranteed y src = by_form (form_of o src.taken.value (ValueOf y) src.entry src.named)
      where
        among : Contains (operands_at (definitions_of d f) v) src.taken.value
        among = subst (λ vs. Contains vs src.taken.value) (sym (rows.defined.operands ∙ ap (λ r. chain_operands r (map value_of i.operands)) is ∙ chain (map value_of i.operands)))
            (contained (map value_of i.operands) src.k src.taken.value (is_operand o (ValueOf y) src))

        by_form : Form src.taken.value (ValueOf y) → Newly
        by_form (held e owned) =
            absurd (not_plain_or kind.Owned (λ h. cc)
            (kind_with q is ∙ ap (λ z. cond trivial kind.Plain z) (same (kind_together d f i) ∙ together_owned src.taken.value src.k (is_operand o (ValueOf y) src) owned)) guaranteed)
        by_form (lends_it e not_owned value) =
            let g = lent_guarded effective o (ValueOf y) src e not_owned in
            kept.by_base g.base
            (handed_on m n f a v src.taken.value g.base guaranteed
            (λ l. no_lender made_trivial (sym (ap (λ r. result_origin r made_trivial) is) ∙ sym rows.defined.origin ∙ l)) among (value y refl) g.is_base)
            g.guard

    hands_on : (result_kind_of i.op ≡ ForwardedResult) ⊎ (result_kind_of i.op ≡ OperandResult) → (effect_of i.op ≡ row.NoEffect → ⊥) → kind_at d f v ≡ kind.Guaranteed
        → (y : Value) → IsSource o (ValueOf y) → Newly
    hands_on (inl e) effective guaranteed y src = handing ForwardedResult e (λ z. refl) (λ vs. refl) (λ b h. at b h) effective guaranteed y src
      where
        at : (b : Bool) → result_origin ForwardedResult b ≡ origin.Lender → ⊥
        at true h = cc
        at false h = cc
    hands_on (inr e) effective guaranteed y src = handing OperandResult e (λ z. refl) (λ vs. refl) (λ b h. at b h) effective guaranteed y src
      where
        at : (b : Bool) → result_origin OperandResult b ≡ origin.Lender → ⊥
        at true h = cc
        at false h = cc

    -- ---- addresses

    address : result_kind_of i.op ≡ AddressResult → (effect_of i.op ≡ row.NoEffect → ⊥) → (y : Datum) → IsSource o y → Newly
    address is effective y src = by_form (form_of o src.taken.value y src.entry src.named)
      where
        plain : kind_at d f v ≡ kind.Plain
        plain = kind_with AddressResult is ∙ at trivial
          where
            at : (b : Bool) → cond b kind.Plain kind.Plain ≡ kind.Plain
            at true = refl
            at false = refl

        among : Contains (operands_at (definitions_of d f) v) src.taken.value
        among = subst (λ vs. Contains vs src.taken.value) (sym (rows.defined.operands ∙ ap (λ r. chain_operands r (map value_of i.operands)) is))
            (contained (map value_of i.operands) src.k src.taken.value (is_operand o y src))

        is_value : IsValue f v
        is_value = omega (arith, values_counted f, each_value (item_defined f (item.Inst p)) (items_of m n f a (item.Inst p)).defined k (ap (λ vs. slice_get vs k) defined_is ∙ result))
          where
            each_value : (vs : List ValueId) → Each (IsOf f) vs → (k : ℕ) → slice_get vs k ≡ Some v → IsOf f v
            each_value [] h k e = cc
            each_value (w ∷ vs) h zero e = let same : w ≡ v = cc in subst (IsOf f) same h.0
            each_value (w ∷ vs) h (suc k) e = each_value vs h.1 k e

        hands_base : (b : ValueId) → IsBaseOf d f b src.taken.value → IsBaseOf d f b v
        hands_base b base = bases_of_addresses m n f a v src.taken.value b is_value (rows.defined.origin ∙ ap (λ r. result_origin r made_trivial) is) among base

        by_form : Form src.taken.value y → Newly
        by_form (held e owned) =
            let known = owned_own_bases m n f a src.taken.value owned in
            let own_base : IsBaseOf d f src.taken.value src.taken.value =
            ap (λ (q : Option Facts). has (known_or (λ _. q) src.taken.value).bases src.taken.value.0) known
            ∙ ap (λ b. b || false) (eq-eqb src.taken.value.0 src.taken.value.0 refl) in
            let l = addresses_of_lenders m n f a v src.taken.value plain (hands_base src.taken.value own_base) in
            let guaranteed : kind_at d f src.taken.value ≡ kind.Guaranteed = ap (λ (q : Option Facts). (known_or (λ _. q) src.taken.value).kind) l.facts in
            absurd (not_both owned guaranteed)
          where
            not_both : kind_at d f src.taken.value ≡ kind.Owned → kind_at d f src.taken.value ≡ kind.Guaranteed → ⊥
            not_both one other = cc
        by_form (lends_it e not_owned value) =
            let g = lent_guarded effective o y src e not_owned in kept.by_base g.base (hands_base g.base g.is_base) g.guard

    -- ---- borrows

    borrows_operand : Opens i.op → (effect_of i.op ≡ row.NoEffect → ⊥) → (y : Value) (src : IsSource o (ValueOf y)) → src.k ≡ 0 → Newly
    borrows_operand opens effective y src first = by_form (form_of o src.taken.value (ValueOf y) src.entry src.named)
      where
        borrow : is_borrow f v ≡ true
        borrow = is_scope opens.scope

        first_is : first_value i ≡ Some src.taken.value
        first_is = sym (slice_get-map value_of i.operands 0) ∙ ap (slice_get (map value_of i.operands)) (sym first) ∙ is_operand o (ValueOf y) src

        of_value : borrow_in (borrows_of f) v.0 ≡ borrow_at false (Some src.taken.value)
        of_value = opened opens.scope ∙ ap (λ rs. borrow_at (takes_address rs) (first_value i)) opens.uses ∙ ap (borrow_at false) first_is

        from_base : (b : ValueId) → IsBaseOf d f b src.taken.value → BorrowsFrom d f v b
        from_base b base = ap (λ w. has (bases_in (known_or facts) (lends w)) b.0) of_value ∙ base

        used_role : (j : ℕ) (z : Taken) → slice_get (taken_by i) j ≡ Some z → z.role ≡ role.Used
        used_role j z e =
            let r = (taken_at i.operands (roles_for (roles_of i.op) (conventions_in i) (length i.operands)) j z e).1 in
            r.2 ∙ sym (ap (λ (u : Treatment). u.role) (table.replicated (length i.operands) (by_row role.Used) j r.0
            (ap (λ rs. slice_get (roles_for rs (conventions_in i) (length i.operands)) j) (sym opens.uses) ∙ r.1)))

        none_ends : list_any (is_end facts src.taken.value) (item_taken f (item.Inst p)) ≡ false
        none_ends = ⊎_elim (λ h. absurd (never (ended_among src.taken.value h))) (λ none. none) (cases_Bool (list_any (is_end facts src.taken.value) (item_taken f (item.Inst p))))
          where
            never : ((j : ℕ) × (z : Taken) × (slice_get (taken_by i) j ≡ Some z) × (ends facts z ≡ true) × (z.value ≡ src.taken.value)) → ⊥
            never r = ⊎_elim (λ owned. false≢true (ap ends_owned (sym (used_role r.0 r.1 r.2)) ∙ owned.1)) (λ scope. no_scope_role effective r.0 r.1 r.2 scope) (ended_fact facts r.1 r.3)

        by_form : Form src.taken.value (ValueOf y) → Newly
        by_form (held e owned) =
            let known = owned_own_bases m n f a src.taken.value owned in
            let own_base : IsBaseOf d f src.taken.value src.taken.value =
            ap (λ (q : Option Facts). has (known_or (λ _. q) src.taken.value).bases src.taken.value.0) known
            ∙ ap (λ b. b || false) (eq-eqb src.taken.value.0 src.taken.value.0 refl) in
            kept.borrows src.taken.value borrow (own borrow) (from_base src.taken.value own_base)
            (owner src.taken.value (ValueOf y) (unended_stays facts src.taken.value (item_taken f (item.Inst p)) entries ops.left none_ends left_is ∙ e) src.named)
        by_form (lends_it e not_owned value) =
            let g = lent_guarded effective o (ValueOf y) src e not_owned in
            kept.borrows g.base borrow (own borrow) (from_base g.base g.is_base) g.guard

  -- ---- row by row

  one_result : {A : Type 0} (y x : A) (k : ℕ) → slice_get (y ∷ []) k ≡ Some x → y ≡ x
  one_result y x zero e = same_Some y x e
  one_result y x (suc k) e = cc

  no_result : {A : Type 0} (x : A) (k : ℕ) → slice_get [] k ≡ Some x → ⊥
  no_result x k e = cc

  one_given : (y : Datum) (k : ℕ) (x : Datum) → ops.given ≡ y ∷ [] → slice_get ops.given k ≡ Some x → (k ≡ 0) × (y ≡ x)
  one_given y zero x are e = (refl, same_Some y x (sym (ap (λ zs. slice_get zs 0) are) ∙ e))
  one_given y (suc k) x are e = let none : None ≡ Some x = sym (ap (λ zs. slice_get zs (suc k)) are) ∙ e in cc

  -- the one operand names what it names
  source_alone : (o : ObjectId) (y : Datum) → ops.given ≡ y ∷ [] → IsNamed o (references_in y) → IsSource o y
  source_alone o y are named = source_of o 0 y (ap (λ zs. slice_get zs 0) are) named

  alone_first : (o : ObjectId) (y : Datum) (are : ops.given ≡ y ∷ []) (src : IsSource o y) → src.k ≡ 0
  alone_first o y are src = (one_given y src.k y are src.is_given).0

  module _ (k : ℕ) (v : ValueId) (x : Datum) (o : ObjectId) (result : slice_get i.results k ≡ Some v) (made : made_entry (kind_at d f v) x ≡ Ok (Lent x))
      (named : IsNamed o (references_in x)) (hands : HandsValues i ops.given) (loaded : LendsLoaded f lending' memory c.memory i ops.given) where
    abbrev New : Type 0
    New = IsNewlyGuarded d f lending lending' memory c.memory ops.left o v

    -- a value that is lent is Guaranteed
    of_value : (y : Value) → y_is y ≡ x → kind_at d f v ≡ kind.Guaranteed
    of_value y same = value_lent (kind_at d f v) y x (subst (λ (z : Datum). made_entry (kind_at d f v) z ≡ Ok (Lent x)) (sym same) made)

    named_value : (y : Value) → y_is y ≡ x → IsNamed o (references_of y)
    named_value y same = subst (λ (z : Datum). IsNamed o (references_in z)) (sym same) named

    effective_by : (e : RowEffect) → effect_of i.op ≡ e → (e ≡ row.NoEffect → ⊥) → effect_of i.op ≡ row.NoEffect → ⊥
    effective_by e is other none = other (sym is ∙ none)

    newly : (b : Change) → Leaves d shapes values memory i ops.given b → b.memory ≡ c.memory → slice_get b.results k ≡ Some x → New
    newly _ doing.nothing same e = absurd (no_result x k e)
    newly _ (doing.bare y none) same e = absurd (named_nowhere o (subst (λ os. IsNamed o os) (ap references_in (sym (one_result y x k e)) ∙ none) named))
    newly _ (doing.object class is) same e =
        absurd (owned_result k v x o result named (table.object_owned i.op is) (of_value (Object (new_object memory)) (one_result (ValueOf (Object (new_object memory))) x k e)))
    newly _ (doing.slot s q is home) same e =
        absurd (named_nowhere o (subst (λ os. IsNamed o os) (ap references_in (sym (one_result (AddressOf q) x k e)) ∙ ap home_references home) named))
    newly _ (doing.removes q is are) same e = absurd (no_result x k e)
    newly _ (doing.gives y is are) same e =
        let it = hands y (inl is) are in
        let here : ValueOf it.0 ≡ x = sym it.1 ∙ one_result y x k e in
        let src = source_alone o (ValueOf it.0) (are ∙ ap (λ (z : Datum). z ∷ []) it.1) (named_value it.0 here) in
        let effective = effective_by row.GivesOperand is (λ h. cc) in
        by_gives it.0 here src (alone_first o (ValueOf it.0) (are ∙ ap (λ (z : Datum). z ∷ []) it.1) src) effective (table.giving_row i.op is)
      where
        by_gives : (y : Value) → y_is y ≡ x → (src : IsSource o (ValueOf y)) → src.k ≡ 0 → (effect_of i.op ≡ row.NoEffect → ⊥) → Gives i.op → New
        by_gives y here src first effective (table.moves owned) = absurd (owned_result k v x o result named owned (of_value y here))
        by_gives y here src first effective (table.hands_on forwarded) = hands_on k v x o result named (inl forwarded) effective (of_value y here) y src
        by_gives y here src first effective (table.opens opens) = borrows_operand k v x o result named opens effective y src first
    newly _ (doing.copies y is are) same e =
        let it = hands y (inr is) are in
        absurd (owned_result k v x o result named (table.copy_owned i.op is) (of_value it.0 (sym it.1 ∙ one_result y x k e)))
    newly _ (doing.retains y is are) same e = absurd (no_result x k e)
    newly _ (doing.drops y is are) same e = absurd (no_result x k e)
    newly _ (doing.loads oper q y is done are at) same e =
        let here = one_result (ValueOf y) x k e in
        ⊎_elim (λ owned. absurd (owned_result k v x o result named owned (of_value y here)))
        (λ scope.
        let borrow = is_scope k v x o result named scope in
        let cell = loaded q v k y o is are result borrow at (named_value y here) in
        kept.lends_cell cell.0 cell.1 borrow (own k v x o result named borrow) cell.2 cell.3 cell.4)
        (table.loading_row i.op is)
    newly _ (doing.names oper q y is done are at live) same e =
        absurd (owned_result k v x o result named (table.name_owned i.op is) (of_value y (one_result (ValueOf y) x k e)))
    newly _ (doing.names_none oper q is done are) same e =
        absurd (named_nowhere o (named_value (Case 0) (one_result (ValueOf (Case 0)) x k e)))
    newly _ (doing.stores oper y q is done are) same e = absurd (no_result x k e)
    newly _ (doing.destroys oper q is done are) same e = absurd (no_result x k e)
    newly _ (doing.groups vs is are) same e =
        let here = one_result (ValueOf (grouped vs)) x k e in
        let all = values_named (one_object o) ops.given vs are in
        let whole : of_references (one_object o) (references_of (grouped vs)) ≡ in_data (one_object o) ops.given = all in
        let some = named_value (grouped vs) here in
        let y = named_datum o ops.given (omega (arith, whole, some)) in
        let it = all_values ops.given vs are y.0 y.1 y.2 in
        hands_on k v x o result named (table.group_hands i.op is) (effective_by row.Groups is (λ h. cc)) (of_value (grouped vs) here) it.0
        (source_of o y.0 (ValueOf it.0) (y.2 ∙ ap (λ (z : Datum). Some z) it.1) (subst (λ (z : Datum). IsNamed o (references_in z)) it.1 y.3))
    newly _ (doing.chooses j y is are) same e =
        let here = one_result (ValueOf (Full j y)) x k e in
        hands_on k v x o result named (table.case_hands i.op is) (effective_by row.ChoosesCase is (λ h. cc)) (of_value (Full j y) here) y
        (source_alone o (ValueOf y) are (named_value (Full j y) here))
    newly _ (doing.member j y z is are at) same e =
        let here = one_result (ValueOf z) x k e in
        let most = member_named (one_object o) y z j at in
        let some = named_value z here in
        hands_on k v x o result named (table.member_hands i.op is) (effective_by row.GivesMember is (λ h. cc)) (of_value z here) y
        (source_alone o (ValueOf y) are (omega (arith, most, some)))
    newly _ (doing.members y ys is are at) same e =
        let z = mapped ys k x e in
        let all = members_named (one_object o) y ys at in
        let most = one_most o (map ValueOf ys) k x e in
        hands_on k v x o result named (table.members_hand i.op is) (effective_by row.GivesMembers is (λ h. cc)) (of_value z.0 z.1) y
        (source_alone o (ValueOf y) are (omega (arith, all, most, named)))
    newly _ (doing.part j q r is are at) same e =
        let here = one_result (AddressOf r) x k e in
        address k v x o result named (table.part_address i.op is) (effective_by row.AddressesMember is (λ h. cc)) (AddressOf q)
        (source_alone o (AddressOf q) are
        (subst (λ (h : Home). IsNamed o (home_references h)) (member_home q r j at) (subst (λ (z : Datum). IsNamed o (references_in z)) (sym here) named)))
    newly _ (doing.field y p' q is are is_o home) same e =
        let here = one_result (AddressOf q) x k e in
        address k v x o result named (table.field_address i.op is) (effective_by row.AddressesField is (λ h. cc)) (ValueOf y)
        (source_alone o (ValueOf y) are
        (subst (λ os. IsNamed o os) (ap home_references home ∙ sym (object_references y p' is_o)) (subst (λ (z : Datum). IsNamed o (references_in z)) (sym here) named)))

pub rows_guarded : AreRowsGuarded
rows_guarded m n f a p i there shapes values lending lending' memory entries t ops c ops_are does kinds lent current hands loaded k v x o defined result made named =
    newly m n f a p i there shapes values lending lending' memory entries t ops c ops_are kinds lent current k v x o
    (sym (ap (λ vs. slice_get vs k) (defined_is m n f a p i there shapes values lending lending' memory entries t ops c ops_are kinds lent current)) ∙ defined) made named hands loaded c
    (changes_told (declarations_of m) shapes values memory i ops.given c does) refl result
