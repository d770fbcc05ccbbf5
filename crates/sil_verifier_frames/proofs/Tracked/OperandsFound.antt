-- The operands of the next item of a frame are found: those that end and those that are used are there, and none that is lent is consumed.
use Rattle.std.proofs.Common.{◌≡◌, ℕ, ◌<◌, List, [], ◌∷◌, ◌++◌, length, refl, sym, ap, ◌∙◌, subst, Bool, true, false, cond, Option, Some, None, Ok, Err, ◌⊎◌}
use Rattle.std.specs.Prelude.{◌||◌, ◌==◌, Contains, slice_get, unwrap_or}
use Rattle.std.specs.List.{list_any}
use Rattle.std.specs.declared.result.Result.{Result}
use Rattle.std.proofs.lemmas.Bool.{and_parts, cases_Bool, eqb-true, false≢true}
use Rattle.std.proofs.lemmas.List.Folds.{list_any-append}
use Rattle.std.proofs.lemmas.Option.{slice_get_within}
use Rattle.instruction_table.specs.declared.entries.Role.{Role}
use Rattle.instruction_table.specs.declared.entries.Role.TheVariants as role
use Rattle.sil_cfg_items.specs.Items.{item_taken}
use Rattle.sil_cfg_items.specs.declared.taken.Taken.{Taken}
use Rattle.numbered_form.specs.Lists.{Each}
use Rattle.holder_model_laws.specs.ownership_kinds_chains.OwnershipChains.Facts.{is_guaranteed, is_owned, known_or}
use Rattle.holder_model_laws.specs.ownership_kinds_chains.declared.ownership_chains.facts.Facts.{Facts}
use Rattle.holder_model_values.specs.RunValues.Memory.{Memory}
use Rattle.holder_model_values.specs.RunValues.Places.{Home, Inside, OnStack}
use Rattle.holder_model_values.specs.RunValues.Shapes.{Shape}
use Rattle.holder_model_values.specs.RunValues.Values.{references_of}
use Rattle.sil_ast.specs.declared.function.Function.{Function}
use Rattle.sil_ast.specs.declared.module.Module.{Module}
use Rattle.sil_ast.specs.declared.place.ValueId.{ValueId}
use Rattle.sil_cfg.specs.declared.item.Item.{Item}
use Rattle.sil_types_declarations.specs.TypeDefinitions.Declarations.{Declarations, declarations_of}
use Rattle.sil_types_declarations.specs.declared.type_definitions.kind.Kind.{Kind}
use Rattle.sil_types_declarations.specs.declared.type_definitions.kind.Kind.TheVariants as kind
use Rattle.sil_verifier_trails.proofs.AcceptedPremises.EndsMayEnd.{ends_right}
use Rattle.sil_verifier_trails.specs.sil_verifier_values.inner.Known.{IsAcceptedBody, kind_at}
use Rattle.sil_verifier_trails.specs.sil_verifier_values.inner.Operands.{SuitsRole}
use Rattle.holder_model_laws.specs.holder_model.RunTyping.Forms.{Form, OfValue, form_of}
use Rattle.sil_verifier_trails.proofs.sil_verifier_values.Suited.{suited}
use Rattle.numbered_form.proofs.Lists.{contained}
use Rattle.sil_verifier_trails.proofs.holder_model_typing.RunTypingLaws.Found.{each_at}
use Rattle.sil_verifier_trails.proofs.holder_model_typing.RunTypingLaws.ListFacts.{get_next}
use Rattle.sil_verifier_trails.specs.AcceptedTrails.inner.Defined.{IsDefinedOn, IsTakenFrom}
use Rattle.sil_verifier_trails.specs.AcceptedTrails.inner.Lives.{IsOwnedIn}
use Rattle.sil_verifier_trails.specs.AcceptedTrails.inner.Passing.{is_end, is_use}
use Rattle.sil_verifier_trails.specs.RunTrails.inner.RunTrails.{IsTurnedTrail}
use Rattle.holder_model_laws.specs.holder_model.Calling.{value_count}
use Rattle.holder_model_laws.specs.holder_model.Data.{AddressOf, Datum, FunctionOf, ValueOf}
use Rattle.holder_model_laws.specs.holder_model.Faults.{ConsumesLent, HolderFault, NamesDead, WrongShape}
use Rattle.holder_model_laws.specs.holder_model.Frames.{Entry, Gone, Held, Lent, Operands, Plain, and_more}
use Rattle.holder_model_laws.specs.holder_model.Frames.{any_dead, datum_in, datum_or_fault, ends, entry_at, has_any, is_consumed, is_held}
use Rattle.holder_model_laws.specs.holder_model.Frames.{made_entry, operand, operand_data, operands_of, plain_address}
use Rattle.holder_model_laws.specs.holder_model.Frames.{plain_entry, unless_dead, used_datum, with_ok, without_ended}
use Rattle.holder_model_laws.specs.holder_model.Data.{references_in}
use Rattle.holder_model_laws.specs.ownership_kinds_origins.Facts.{facts_in}
use Rattle.sil_verifier_trails.specs.HeldEntries.inner.Entries.{AreEnded, CanEnd, End, MayEnd}
use Rattle.sil_verifier_trails.specs.HeldEntries.inner.Tracked.{AreTracked, AreTrackedLeft, HoldsWhile, IsOwnScope, LendsWhile}
use Rattle.sil_verifier_trails.proofs.HeldEntries.EntriesEnded.{end_where_they_may}
use Rattle.sil_verifier_trails.proofs.HeldEntries.TrackedOn.{may_end_where_tracked, there_where_used}
use Rattle.sil_verifier_trails.proofs.AcceptedTrails.OperandsDefined.{operands_defined}
use Rattle.sil_verifier_trails.proofs.AcceptedTrails.Tests.{either, first_of, or_right, same_value}
use Rattle.holder_model_laws.proofs.HolderLaws.Steps.WhichFaults.{ErrsBy, err_is, errs_either, errs_more, errs_with}
use Rattle.sil_verifier_trails.specs.holder_model_typing.TypedMemory.inner.Worlds.{DatumIs, World}
use Rattle.sil_verifier_frames.specs.inner.Typed.TypedStates.{EntriesAre, EntryIs}
use Rattle.sil_verifier_frames.specs.inner.Tracked.TrackedStates.{IsThere, NeverEnds, OthersAreThere}
use Rattle.sil_verifier_frames.proofs.Tracked.ConsumedValues.{IsValueForm, consumed_value}
use Rattle.sil_verifier_frames.proofs.Tracked.HowValuesEnd.{HowItEnds, accepted_in, guaranteed_kind, how_it_ends, is_owned_in, owned_is_used, scope_is_used}

-- ---- lists

each_by_parts : {A : Type 0} (P : A → Type 0) (xs : List A) → ((front rest : List A) (x : A) → xs ≡ front ++ x ∷ rest → P x) → Each P xs
each_by_parts P [] h = tt
each_by_parts P (x ∷ xs) h = (h [] xs x refl, each_by_parts P xs (λ front rest y parts. h (x ∷ front) rest y (ap (λ zs. x ∷ zs) parts)))

-- ---- entries

pub there_datum : (e : Entry) → IsThere e → (x : Datum) × (datum_in e ≡ Some x)
there_datum Gone h = absurd h
there_datum (Held x) h = (x, refl)
there_datum (Lent x) h = (x, refl)
there_datum (Plain x) h = (x, refl)

can_end_there : (e : Entry) → CanEnd e → IsThere e
can_end_there Gone h = h
can_end_there (Held x) h = tt
can_end_there (Lent x) h = tt
can_end_there (Plain x) h = absurd h

-- ---- kinds of entries

address_not_held : (home : Home) (x : Datum) → is_held (plain_address home x) ≡ false
address_not_held OnStack x = refl
address_not_held (Inside o) x = refl

plain_not_held : (x : Datum) (e : Entry) → plain_entry x ≡ Ok e → is_held e ≡ false
plain_not_held (ValueOf x) e h = by (has_any (references_of x)) h
  where
    by : (b : Bool) → cond b (Err WrongShape) (Ok (Plain (ValueOf x))) ≡ Ok e → is_held e ≡ false
    by true h = absurd (cc)
    by false h = let same : e ≡ Plain (ValueOf x) = cc in ap is_held same
plain_not_held (AddressOf p) e h = let same : e ≡ plain_address p.home (AddressOf p) = cc in ap is_held same ∙ address_not_held p.home (AddressOf p)
plain_not_held (FunctionOf g) e h = let same : e ≡ Plain (FunctionOf g) = cc in ap is_held same

made_held : (k : Kind) (x : Datum) (e : Entry) → made_entry k x ≡ Ok e → is_held e ≡ true → is_owned k ≡ true
made_held kind.Owned x e made held = refl
made_held kind.Guaranteed x e made held = let same : e ≡ Lent x = cc in absurd (false≢true (sym (ap is_held same) ∙ held))
made_held kind.Plain x e made held = absurd (false≢true (sym (plain_not_held x e made) ∙ held))

is_within : (entries : List Entry) (v : ValueId) → IsThere (entry_at entries v) → v.0 < length entries
is_within entries v there = at (slice_get entries v.0) refl there
  where
    at : (o : Option Entry) → slice_get entries v.0 ≡ o → IsThere (unwrap_or o Gone) → v.0 < length entries
    at None e h = absurd h
    at (Some x) e h = slice_get_within entries v.0 x e

held_there : (e : Entry) → is_held e ≡ true → IsThere e
held_there Gone h = absurd (false≢true h)
held_there (Held x) h = tt
held_there (Lent x) h = tt
held_there (Plain x) h = tt

-- a held entry is that of an Owned value
pub typed_held : (m : Module) (w : World) (f : Function) (entries : List Entry) → EntriesAre m w f entries → (v : ValueId) → is_held (entry_at entries v) ≡ true
    → is_owned (kind_at (declarations_of m) f v) ≡ true
typed_held m w f entries typed v held =
    by (kind_at (declarations_of m) f v) (form_of (declarations_of m) f v) (entry_at entries v) (typed.each v within) held
  where
    within : v.0 < value_count f
    within = subst (λ k. v.0 < k) typed.size (is_within entries v (held_there (entry_at entries v) held))

    by : (k : Kind) (form : Form) (e : Entry) → EntryIs m w k form e → is_held e ≡ true → is_owned k ≡ true
    by k form e EntryIs.gone held = absurd (false≢true held)
    by k form e (EntryIs.made z u made is) held = made_held k z u made held

-- a Plain value's entry is lent where it is the address of a field
lent_plain : (x y : Datum) → made_entry kind.Plain x ≡ Ok (Lent y) → (form : Form) (m : Module) (w : World) → DatumIs m w form x → (s : Shape) → form ≡ OfValue s → ⊥
lent_plain x y e form m w (DatumIs.value s v suits) t is = by (has_any (references_of v)) e
  where
    by : (b : Bool) → cond b (Err WrongShape) (Ok (Plain (ValueOf v))) ≡ Ok (Lent y) → ⊥
    by true e = absurd (cc)
    by false e = absurd (cc)
lent_plain x y e form m w (DatumIs.place p place) t is = absurd (cc)
lent_plain x y e form m w (DatumIs.function g) t is = absurd (cc)

-- ---- operands that are read

abbrev left_or : List Entry → Result Operands HolderFault → List Entry
left_or left (Ok ops) = ops.left
left_or left (Err x) = left

module _ (facts : ValueId → Option Facts) (before left : List Entry) where
  -- the operand's datum is there, in the entries before the ends where it ends, and else in those behind them
  abbrev pub IsRead : Taken → Type 0
  IsRead x = (y : Datum) × (cond (ends facts x) (datum_or_fault (datum_in (entry_at before x.value))) (used_datum x.role (entry_at left x.value)) ≡ Ok y)

  dead_alone : (m : Memory) (ts : List Taken) → Each IsRead ts → ErrsBy (λ y. y ≡ NamesDead) (operand_data facts m before left ts)
  dead_alone m [] all = tt
  dead_alone m (t ∷ ts) all =
      errs_with (λ y. y ≡ NamesDead) (λ x. and_more x (operand_data facts m before left ts)) (operand facts m before left t)
      (λ x. errs_more (λ y. y ≡ NamesDead) x (operand_data facts m before left ts) (dead_alone m ts all.1))
      (subst (ErrsBy (λ y. y ≡ NamesDead)) (sym (ap (with_ok (unless_dead m)) all.0.1))
      (errs_either (λ y. y ≡ NamesDead) (any_dead m (references_in all.0.0)) (Err NamesDead) (Ok all.0.0) refl tt))

  module _ (m : Memory) (ts : List Taken) (is_left : without_ended facts ts before ≡ Ok left) where
    ends_so : operands_of facts m before ts ≡ with_ok (λ xs. Ok (record { given = xs; left = left })) (operand_data facts m before left ts)
    ends_so = ap (with_ok (λ l. with_ok (λ xs. Ok (record { given = xs; left = l })) (operand_data facts m before l ts))) is_left

    -- none but a dead object is a fault
    pub names_dead_alone : Each IsRead ts → (x : HolderFault) → operands_of facts m before ts ≡ Err x → x ≡ NamesDead
    names_dead_alone all x e =
        err_is (λ y. y ≡ NamesDead) (with_ok (λ xs. Ok (record { given = xs; left = left })) (operand_data facts m before left ts)) x
        (errs_with (λ y. y ≡ NamesDead) (λ xs. Ok (record { given = xs; left = left })) (operand_data facts m before left ts) (λ xs. tt) (dead_alone m ts all))
        (sym ends_so ∙ e)

    -- what is left is what the ends leave
    pub left_is : (ops : Operands) → operands_of facts m before ts ≡ Ok ops → ops.left ≡ left
    left_is ops e = at (operand_data facts m before left ts) (sym ends_so ∙ e)
      where
        at : (r : Result (List Datum) HolderFault) → with_ok (λ xs. Ok (record { given = xs; left = left })) r ≡ Ok ops → ops.left ≡ left
        at (Ok xs) h = sym (ap (left_or left) h)
        at (Err x) h = absurd (cc)

-- ---- in a frame

module _ (m : Module) (n : ℕ) (f : Function) (a : IsAcceptedBody m n f) (w : World) (t : List Item) (i : Item) (turned : IsTurnedTrail f (i ∷ t))
    (entries : List Entry) (typed : EntriesAre m w f entries) (tracked : AreTracked (declarations_of m) f t entries) (others : OthersAreThere (declarations_of m) f t entries) where
  abbrev d : Declarations
  d = declarations_of m

  abbrev facts : ValueId → Option Facts
  facts = facts_in d f

  may : MayEnd facts (item_taken f i) entries × ((left : List Entry) → AreEnded facts (item_taken f i) entries left → AreTrackedLeft d f t i left)
  may = may_end_where_tracked d f (accepted_in m n f a) t i turned (ends_right m n f a i) entries tracked

  pub ended : End facts (item_taken f i) entries
  ended = end_where_they_may facts (item_taken f i) entries may.0

  pub tracked_left : AreTrackedLeft d f t i ended.left
  tracked_left = may.1 ended.left ended.ended

  -- what never ends this item doesn't end
  not_ended : (v : ValueId) → NeverEnds d f v → list_any (is_end facts v) (item_taken f i) ≡ false
  not_ended v never = either (λ ends. absurd (at ends)) (λ none. none) (cases_Bool (list_any (is_end facts v) (item_taken f i)))
    where
      at : list_any (is_end facts v) (item_taken f i) ≡ true → ⊥
      at some =
          let x = first_of (is_end facts v) (item_taken f i) some in
          let both = and_parts (ends facts x.here) (x.here.value.0 == v.0) x.passes in
          let same : x.here.value ≡ v = same_value x.here.value v (eqb-true x.here.value.0 v.0 both.1) in
          either (λ owned. never.not_owned (subst (IsOwnedIn d f) same owned)) (λ scope. never.not_scope (subst (IsOwnScope d f) same scope))
          (ends_right m n f a i x.front x.rest x.here x.parts both.0)

  pub others_left : OthersAreThere d f t ended.left
  others_left v never defined = subst IsThere (sym (ended.ended.others v (not_ended v never))) (others v never defined)

  -- what is there behind the ends was there
  before_there : (v : ValueId) → IsThere (entry_at ended.left v) → IsThere (entry_at entries v)
  before_there v there =
      either (λ ends. absurd (subst IsThere (ended.ended.gone v ends) there)) (λ none. subst IsThere (ended.ended.others v none) there)
      (cases_Bool (list_any (is_end facts v) (item_taken f i)))

  -- ---- each operand

  module _ (front rest : List Taken) (x : Taken) (parts : item_taken f i ≡ front ++ x ∷ rest) where
    among : Contains (item_taken f i) x
    among = contained (item_taken f i) (length front) x (ap (λ xs. slice_get xs (length front)) parts ∙ get_next front x rest)

    uses : is_use facts x.value x ≡ true → list_any (is_use facts x.value) (item_taken f i) ≡ true
    uses e =
        ap (list_any (is_use facts x.value)) parts ∙ list_any-append (is_use facts x.value) front (x ∷ rest)
        ∙ or_right (list_any (is_use facts x.value) front) (list_any (is_use facts x.value) (x ∷ rest)) (ap (λ b. b || list_any (is_use facts x.value) rest) e)

    record IsFound : Type 0 where
      there : IsThere (entry_at entries x.value)
      read : IsRead facts entries ended.left x

    -- it ends
    ended_found : ends facts x ≡ true → IsFound
    ended_found e =
        let there = can_end_there (entry_at entries x.value) (may.0 front rest x parts e).0 in
        let y = there_datum (entry_at entries x.value) there in
        record {
          there = there;
          read = (y.0, ap (λ b. cond b (datum_or_fault (datum_in (entry_at entries x.value))) (used_datum x.role (entry_at ended.left x.value))) e ∙ ap datum_or_fault y.1);
        }

    used_found : ends facts x ≡ false → IsThere (entry_at ended.left x.value) → (y : Datum) × (used_datum x.role (entry_at ended.left x.value) ≡ Ok y) → IsFound
    used_found e there used = record {
      there = before_there x.value there;
      read = (used.0, ap (λ b. cond b (datum_or_fault (datum_in (entry_at entries x.value))) (used_datum x.role (entry_at ended.left x.value))) e ∙ used.1);
    }

    -- a held entry
    held_found : ends facts x ≡ false → HoldsWhile true (entry_at ended.left x.value) → IsFound
    held_found e held = used_found e (subst IsThere (sym held.1) tt) (held.0, ap (used_datum x.role) held.1)

    -- a lent entry that isn't consumed
    lent_used : (y : Datum) → is_consumed x.role ≡ false → used_datum x.role (Lent y) ≡ Ok y
    lent_used y none = ap (λ b. cond b (Err ConsumesLent) (Ok y)) none

    lent_found : ends facts x ≡ false → is_consumed x.role ≡ false → LendsWhile true (entry_at ended.left x.value) → IsFound
    lent_found e none lent = used_found e (subst IsThere (sym lent.1) tt) (lent.0, ap (used_datum x.role) lent.1 ∙ lent_used lent.0 none)

    consumed_role : (r : Role) → is_consumed r ≡ true → r ≡ role.Consumed
    consumed_role role.Consumed e = refl
    consumed_role role.Used e = absurd (false≢true e)
    consumed_role role.Lent e = absurd (false≢true e)
    consumed_role role.Forwarded e = absurd (false≢true e)
    consumed_role role.AddressRole e = absurd (false≢true e)
    consumed_role role.AnyRole e = absurd (false≢true e)
    consumed_role role.ScopeRole e = absurd (false≢true e)
    consumed_role role.ByParameter e = absurd (false≢true e)
    consumed_role role.Counted e = absurd (false≢true e)

    -- what is consumed is Owned or Plain
    may_end : x.role ≡ role.Consumed → (kind_at d f x.value ≡ kind.Owned) ⊎ (kind_at d f x.value ≡ kind.Plain)
    may_end consumed = subst (λ r. SuitsRole d f r x.value) consumed (suited m n f a i x among)

    -- a scope isn't consumed
    scope_not_consumed : IsOwnScope d f x.value → is_consumed x.role ≡ false
    scope_not_consumed own = either (λ consumed. absurd (never_so (consumed_role x.role consumed))) (λ none. none) (cases_Bool (is_consumed x.role))
      where
        guaranteed : kind_at d f x.value ≡ kind.Guaranteed
        guaranteed = guaranteed_kind (kind_at d f x.value) (and_parts (is_guaranteed (kind_at d f x.value)) _ own.scope.scope).0

        never_so : x.role ≡ role.Consumed → ⊥
        never_so consumed =
            either (λ owned. let two : kind.Owned ≡ kind.Guaranteed = sym owned ∙ guaranteed in absurd (cc))
            (λ plain. let two : kind.Plain ≡ kind.Guaranteed = sym plain ∙ guaranteed in absurd (cc)) (may_end consumed)

    -- nor is the address of a field
    address_not_consumed : NeverEnds d f x.value → (y : Datum) → entry_at entries x.value ≡ Lent y → is_consumed x.role ≡ false
    address_not_consumed never y lent = either (λ consumed. absurd (never_so (consumed_role x.role consumed))) (λ none. none) (cases_Bool (is_consumed x.role))
      where
        within : x.value.0 < value_count f
        within = subst (λ k. x.value.0 < k) typed.size (is_within entries x.value (subst IsThere (sym lent) tt))

        plain_no : x.role ≡ role.Consumed → kind_at d f x.value ≡ kind.Plain → EntryIs m w (kind_at d f x.value) (form_of d f x.value) (entry_at entries x.value) → ⊥
        plain_no consumed plain is =
            let value = consumed_value m n f a i x among consumed in
            by (kind_at d f x.value) (form_of d f x.value) (entry_at entries x.value) is plain value lent
          where
            by : (k : Kind) (form : Form) (e : Entry) → EntryIs m w k form e → k ≡ kind.Plain → IsValueForm form → e ≡ Lent y → ⊥
            by k form e EntryIs.gone plain value lent = absurd (cc)
            by k form e (EntryIs.made z u made is) plain value lent =
                lent_plain z y (ap (λ q. made_entry q z) (sym plain) ∙ made ∙ ap Ok lent) form m w is value.0 value.1

        never_so : x.role ≡ role.Consumed → ⊥
        never_so consumed =
            either (λ owned. never.not_owned (is_owned_in m n f a x.value (ap is_owned owned))) (λ plain. plain_no consumed plain (typed.each x.value within)) (may_end consumed)

    other_found : NeverEnds d f x.value → ends facts x ≡ false → IsFound
    other_found never e = at (entry_at entries x.value) refl
      where
        same : entry_at ended.left x.value ≡ entry_at entries x.value
        same = ended.ended.others x.value (not_ended x.value never)

        defined : IsDefinedOn f t x.value
        defined =
            each_at (IsTakenFrom f t) (item_taken f i) (length front) x (operands_defined d f (accepted_in m n f a) t i turned)
            (ap (λ xs. slice_get xs (length front)) parts ∙ get_next front x rest)

        there : IsThere (entry_at entries x.value)
        there = others x.value never defined

        by : (z : Entry) → entry_at entries x.value ≡ z → (y : Datum) × (used_datum x.role z ≡ Ok y) → IsFound
        by z is used = used_found e (others_left x.value never defined) (used.0, ap (used_datum x.role) (same ∙ is) ∙ used.1)

        at : (z : Entry) → entry_at entries x.value ≡ z → IsFound
        at Gone is = absurd (subst IsThere is there)
        at (Held y) is = by (Held y) is (y, refl)
        at (Lent y) is = by (Lent y) is (y, lent_used y (address_not_consumed never y is))
        at (Plain y) is = by (Plain y) is (y, refl)

    found : IsFound
    found = either ended_found used (cases_Bool (ends facts x))
      where
        used : ends facts x ≡ false → IsFound
        used e = by (how_it_ends m n f a x.value)
          where
            by : HowItEnds d f x.value → IsFound
            by (HowItEnds.owned owned) =
                held_found e ((there_where_used d f (accepted_in m n f a) t i turned ended.left tracked_left).0 x.value owned
                (uses (owned_is_used facts x owned.owned e)))
            by (HowItEnds.scope own) =
                lent_found e (scope_not_consumed own) ((there_where_used d f (accepted_in m n f a) t i turned ended.left tracked_left).1 x.value own
                (uses (scope_is_used facts x (and_parts (is_guaranteed (known_or facts x.value).kind) _ own.scope.scope).0 own.own e)))
            by (HowItEnds.never never) = other_found never e

  -- ---- all of them

  -- each operand was there
  pub operand_there : (front rest : List Taken) (x : Taken) → item_taken f i ≡ front ++ x ∷ rest → IsThere (entry_at entries x.value)
  operand_there front rest x parts = (found front rest x parts).there

  all_read : Each (IsRead facts entries ended.left) (item_taken f i)
  all_read = each_by_parts (IsRead facts entries ended.left) (item_taken f i) (λ front rest x parts. (found front rest x parts).read)

  pub operands_right : (memory : Memory) (x : HolderFault) → operands_of facts memory entries (item_taken f i) ≡ Err x → x ≡ NamesDead
  operands_right memory x e = names_dead_alone facts entries ended.left memory (item_taken f i) ended.is_left all_read x e

  pub operands_left : (memory : Memory) (ops : Operands) → operands_of facts memory entries (item_taken f i) ≡ Ok ops → ops.left ≡ ended.left
  operands_left memory ops e = left_is facts entries ended.left memory (item_taken f i) ended.is_left ops e

  pub size_left : length ended.left ≡ value_count f
  size_left = ended.ended.size ∙ typed.size

  -- a held entry that is left is that of an Owned value
  pub held_left : (v : ValueId) → is_held (entry_at ended.left v) ≡ true → is_owned (kind_at d f v) ≡ true
  held_left v held =
      either (λ ends. absurd (false≢true (sym (ap is_held (ended.ended.gone v ends)) ∙ held)))
      (λ none. typed_held m w f entries typed v (sym (ap is_held (ended.ended.others v none)) ∙ held)) (cases_Bool (list_any (is_end facts v) (item_taken f i)))
