-- What an accepted function's trails say of guards.
use Rattle.std.proofs.Common.{◌≡◌, ℕ, zero, suc, ◌<◌, List, [], ◌∷◌, ◌++◌, length, map, refl, sym, ap, ◌∙◌, subst, Bool, true, false, not, cond, ◌&&◌, ◌||◌, ◌⊎◌, inl, inr, ⊎_elim}
use Rattle.std.proofs.Common.{Option, Some, None, Ok, append_assoc, arith, eq-eqb}
use Rattle.std.specs.Prelude.{◌==◌, Contains, option_map, slice_get}
use Rattle.std.specs.List.{list_any}
use Rattle.std.proofs.lemmas.Bool.{and_parts, cases_Bool, eqb-true, false≢true, or_cases, true≢false}
use Rattle.std.proofs.lemmas.Option.{same_Some, slice_get-map}
use Rattle.sil_cfg_items.specs.Items.{arg_value, item_defined, item_taken}
use Rattle.sil_cfg_items.specs.declared.taken.Taken.{Taken}
use Rattle.instruction_table.specs.declared.entries.Role.{Role}
use Rattle.instruction_table.specs.declared.entries.Role.TheVariants as role
use Rattle.numbered_form.specs.Lists.{Each}
use Rattle.sil_verifier_frames.specs.ownership_kinds_chains.OwnershipChains.Facts.{facts_with, has, is_guaranteed, is_owned, known_or, value_of}
use Rattle.sil_verifier_frames.specs.ownership_kinds_chains.declared.ownership_chains.facts.Facts.{Facts}
use Rattle.sil_verifier_frames.specs.ownership_kinds_chains.OwnershipMarks.Marks.{end_of, ended_with, ends_owned, ends_scope, use_of, used_with}
use Rattle.sil_ast.specs.Blocks.{args_of}
use Rattle.sil_ast.specs.declared.function.BlockArg.{BlockArg}
use Rattle.sil_ast.specs.declared.function.Function.{Function}
use Rattle.sil_ast.specs.declared.module.Module.{Module}
use Rattle.sil_ast.specs.declared.place.ValueId.{ValueId}
use Rattle.sil_cfg.specs.declared.item.Item.{Item}
use Rattle.sil_cfg.specs.declared.item.Item.TheVariants as item
use Rattle.sil_types_declarations.specs.TypeDefinitions.Declarations.{Declarations, declarations_of}
use Rattle.sil_types_declarations.specs.declared.type_definitions.kind.Kind.{Kind}
use Rattle.sil_types_declarations.specs.declared.type_definitions.kind.Kind.TheVariants as kind
use Rattle.holder_model_values.specs.RunValues.Memory.{Memory}
use Rattle.numbered_form.specs.ValueTables.Borrows.{is_borrow}
use Rattle.sil_verifier_frames.specs.sil_verifier_trails.AcceptedTrails.inner.Accepted.{IsAcceptedIn}
use Rattle.sil_verifier_frames.specs.sil_verifier_trails.AcceptedTrails.inner.Bases.{HasBasesAsMade, IsAsMade, IsBaseOf}
use Rattle.sil_verifier_frames.specs.sil_verifier_trails.AcceptedTrails.inner.Defined.{IsDefinedOn, makes}
use Rattle.sil_verifier_frames.specs.sil_verifier_trails.AcceptedTrails.inner.Lives.{BorrowsFrom, IsOwnedIn, is_open}
use Rattle.sil_verifier_frames.specs.sil_verifier_trails.AcceptedTrails.inner.Passing.{IsFoundRight, is_begin, is_end, is_use, left_by, on_behind}
use Rattle.sil_verifier_frames.specs.ownership_kinds_origins.Facts.{facts_in}
use Rattle.sil_verifier_frames.specs.sil_verifier_trails.RunTrails.inner.RunTrails.{IsTurnedTrail}
use Rattle.sil_verifier_frames.proofs.sil_verifier_trails.AcceptedTrails.BasesMade.{bases_as_made}
use Rattle.sil_verifier_frames.proofs.sil_verifier_trails.AcceptedTrails.BasesOpen.{begins_where_made, scope_begins}
use Rattle.sil_verifier_frames.proofs.sil_verifier_trails.AcceptedTrails.LivesPassed.{lives_passed}
use Rattle.sil_verifier_frames.proofs.sil_verifier_trails.AcceptedTrails.ScopesPassed.{bases_kept, scopes_passed}
use Rattle.sil_verifier_frames.proofs.sil_verifier_trails.AcceptedTrails.Tests.{first_of}
use Rattle.sil_verifier_frames.proofs.sil_verifier_trails.AcceptedTrails.Unbroken.{are_accepted}
use Rattle.sil_verifier_frames.specs.sil_verifier_trails.HeldEntries.inner.Tracked.{AreTracked, IsOwnScope, IsWhile}
use Rattle.sil_verifier_frames.proofs.sil_verifier_trails.AcceptedPremises.BasesOfTaken.{bases_of_taken}
use Rattle.sil_verifier_frames.proofs.sil_verifier_trails.AcceptedPremises.MadeAtStops.{made_at_stops, makes_so}
use Rattle.sil_verifier_frames.specs.sil_verifier_values.inner.Bases.{IsLender}
use Rattle.sil_verifier_frames.specs.sil_verifier_values.inner.Known.{IsAcceptedBody, kind_at}
use Rattle.sil_verifier_frames.specs.sil_verifier_values.inner.Operands.{SuitsRole}
use Rattle.sil_verifier_frames.proofs.sil_verifier_values.Addresses.{addresses_of_lenders}
use Rattle.sil_verifier_frames.proofs.sil_verifier_values.Based.{lenders_own_bases, lent_by_lenders, owned_own_bases, owned_value}
use Rattle.sil_verifier_frames.proofs.sil_verifier_values.Borrowed.{number_of_parameter}
use Rattle.sil_verifier_frames.proofs.sil_verifier_values.Made.{parameters_of_entry}
use Rattle.sil_verifier_frames.proofs.sil_verifier_values.Suited.{suited}
use Rattle.numbered_form.proofs.Lists.{contained}
use Rattle.sil_verifier_frames.specs.holder_model.Data.{Datum}
use Rattle.sil_verifier_frames.specs.holder_model.Frames.{Entry, Gone, Held, Lent, entry_at, has_any, without_ended}
use Rattle.sil_verifier_frames.proofs.holder_model_laws.HolderLaws.Counts.Entries.{left_of, was_there}
use Rattle.sil_verifier_frames.specs.sil_verifier_trails.ScopedAddresses.inner.Addresses.{TakesAddressesInScopes}
use Rattle.sil_verifier_frames.proofs.sil_verifier_trails.ScopedAddresses.OwnScopes.{lender_kind, own_scope}
use Rattle.sil_verifier_runs.specs.inner.Guarded.Following.{AreArgumentsOfEntry, AreBorrowedKept, AreOperandsCurrent, AreScopesNotRenewed, GoAlong}
use Rattle.sil_verifier_runs.specs.inner.Guarded.Guards.{IsArgument, IsCurrent, IsThere, Lending}
use Rattle.sil_verifier_runs.proofs.Guarded.Ended.{ended_gone, unended_stays}

stands_behind : (front rest : List Taken) (x : Taken) → Contains (front ++ x ∷ rest) x
stands_behind [] rest x = contained (x ∷ rest) 0 x refl
stands_behind (y ∷ front) rest x = let c = stands_behind front rest x in (suc c.0, suc_less c.1, c.2)
  where
    suc_less : {a b : ℕ} → a < b → suc a < suc b
    suc_less lt = omega (arith, lt)

-- what holds of each element where it stands holds of all
each_standing : (P : Taken → Type 0) (all front rest : List Taken) → all ≡ front ++ rest → ((before behind : List Taken) (x : Taken) → all ≡ before ++ x ∷ behind → P x) → Each P rest
each_standing P all front [] e h = tt
each_standing P all front (x ∷ rest) e h = (h front rest x e, each_standing P all (front ++ x ∷ []) rest (e ∙ sym (append_assoc front (x ∷ []) rest)) h)

each_at : (P : Taken → Type 0) (front rest : List Taken) (x : Taken) → Each P (front ++ x ∷ rest) → P x
each_at P [] rest x h = h.0
each_at P (y ∷ front) rest x h = each_at P front rest x h.1

same_value : (a b : ValueId) → a.0 ≡ b.0 → a ≡ b
same_value a b e = ap value_of e

second_true : (a b : Bool) → b ≡ true → (a || b) ≡ true
second_true true b h = refl
second_true false b h = h

second_false : (a b : Bool) → (a || b) ≡ false → b ≡ false
second_false true b h = absurd (true≢false h)
second_false false b h = h

scope_role : (r : Role) → ends_scope r ≡ true → r ≡ role.ScopeRole
scope_role role.ScopeRole e = refl
scope_role role.Consumed e = absurd (false≢true e)
scope_role role.Used e = absurd (false≢true e)
scope_role role.Lent e = absurd (false≢true e)
scope_role role.Forwarded e = absurd (false≢true e)
scope_role role.AddressRole e = absurd (false≢true e)
scope_role role.AnyRole e = absurd (false≢true e)
scope_role role.ByParameter e = absurd (false≢true e)
scope_role role.Counted e = absurd (false≢true e)

argument_none : {A : Type 0} (xs : List A) (k : ℕ) → slice_get xs k ≡ None → k < length xs → ⊥
argument_none [] k e lt = omega (arith, lt)
argument_none (x ∷ xs) zero e lt = cc
argument_none (x ∷ xs) (suc k) e lt = argument_none xs k e (omega (arith, lt))

has_at : (vs : List ValueId) (k : ℕ) (v : ValueId) → slice_get vs k ≡ Some v → v.0 ≡ k → has vs k ≡ true
has_at vs k v e number = subst (λ j. has vs j ≡ true) number (among vs k e)
  where
    among : (vs : List ValueId) (k : ℕ) → slice_get vs k ≡ Some v → has vs v.0 ≡ true
    among [] k e = cc
    among (w ∷ vs) zero e = let same : w ≡ v = cc in ap (λ b. b || has vs v.0) (eq-eqb w.0 v.0 (ap (λ (u : ValueId). u.0) same))
    among (w ∷ vs) (suc k) e = second_true (w.0 == v.0) (has vs v.0) (among vs k e)

-- a value that is on is there
while_there : (form : Datum → Entry) → ((x : Datum) → form x ≡ Gone → ⊥) → (e : Entry) → IsWhile form true e → IsThere e
while_there form never e h gone = never h.0 (sym h.1 ∙ gone)

-- an operand ends the value, or it is used, which it was on for
on_by_operand : (facts : ValueId → Option Facts) (v : ValueId) (f : Function) (i : Item) (on : Bool) → IsFoundRight facts v f i on → (front rest : List Taken) (x : Taken)
    → item_taken f i ≡ front ++ x ∷ rest → (is_end facts v x ≡ true) ⊎ (is_use facts v x ≡ true) → on ≡ true
on_by_operand facts v f i on found front rest x parts it = ⊎_elim
    (λ ends_it. (and_parts on (not (list_any (is_end facts v) front)) (found.ended front rest x parts ends_it)).0)
    (λ uses_it. (and_parts on (not (list_any (is_end facts v) (item_taken f i))) (found.used (subst (λ ts. list_any (is_use facts v) ts ≡ true) (sym parts) (any_at front rest x uses_it)))).0)
    it
  where
    any_at : (front rest : List Taken) (x : Taken) → is_use facts v x ≡ true → list_any (is_use facts v) (front ++ x ∷ rest) ≡ true
    any_at [] rest x e = ap (λ b. b || list_any (is_use facts v) rest) e
    any_at (y ∷ front) rest x e = second_true (is_use facts v y) (list_any (is_use facts v) (front ++ x ∷ rest)) (any_at front rest x e)

module _ (m : Module) (n : ℕ) (f : Function) (a : IsAcceptedBody m n f) where
  abbrev d : Declarations
  d = declarations_of m

  abbrev facts : ValueId → Option Facts
  facts = facts_in d f

  accepted : IsAcceptedIn d f
  accepted = are_accepted m n f a.verified a.body

  not_owned : (b : ValueId) → IsLender d f b → IsOwnedIn d f b → ⊥
  not_owned b l owned = false≢true (sym (ap is_owned (lender_kind d f b l)) ∙ owned.owned)

  not_scope : (b : ValueId) → is_borrow f b ≡ false → IsOwnScope d f b → ⊥
  not_scope b none own = false≢true (sym none ∙ (and_parts (is_guaranteed (known_or facts b).kind) (is_borrow f b) own.scope.scope).1)

  -- ---- operands

  module _ (entries : List Entry) (t : List Item) (i : Item) (h : IsTurnedTrail f (i ∷ t)) (along : GoAlong d f t entries) where
    held_there : (v : ValueId) → IsOwnedIn d f v → (front rest : List Taken) (x : Taken) → item_taken f i ≡ front ++ x ∷ rest
        → (is_end facts v x ≡ true) ⊎ (is_use facts v x ≡ true) → IsThere (entry_at entries v)
    held_there v owned front rest x parts it =
        let pass = lives_passed d f accepted v owned t i h in
        let on = on_by_operand facts v f i pass.on pass.found front rest x parts it in
        while_there Held (λ y e. cc) (entry_at entries v) (subst (λ b. IsWhile Held b (entry_at entries v)) on (along.tracked.owned v owned pass.on pass.was))

    scope_there : (s : ValueId) → IsOwnScope d f s → is_open d f s t ≡ Some true → IsThere (entry_at entries s)
    scope_there s own opened = while_there Lent (λ y e. cc) (entry_at entries s) (along.tracked.scopes s own true opened)

    used_there : (s : ValueId) → IsOwnScope d f s → (front rest : List Taken) (x : Taken) → item_taken f i ≡ front ++ x ∷ rest
        → (is_end facts s x ≡ true) ⊎ (is_use facts s x ≡ true) → IsThere (entry_at entries s)
    used_there s own front rest x parts it =
        let pass = scopes_passed d f accepted s own.scope t i h in
        let on = on_by_operand facts s f i pass.on pass.found front rest x parts it in
        scope_there s own (pass.was ∙ ap Some on)

    -- an argument, or what else lends itself and is no scope
    lender_there : (b : ValueId) → IsLender d f b → is_borrow f b ≡ false → IsDefinedOn f t b → IsThere (entry_at entries b)
    lender_there b l none made = along.others b (not_owned b l) (not_scope b none) made

    -- how an operand of an Owned value touches it
    owned_touched : (v : ValueId) (x : Taken) → x.value ≡ v → facts v ≡ Some (facts_with kind.Owned (v ∷ [])) → (is_end facts v x ≡ true) ⊎ (is_use facts v x ≡ true)
    owned_touched v x same known = at (ends_owned x.role) refl
      where
        here : (x.value.0 == v.0) ≡ true
        here = eq-eqb x.value.0 v.0 (ap (λ (w : ValueId). w.0) same)

        of : facts x.value ≡ Some (facts_with kind.Owned (v ∷ []))
        of = ap facts same ∙ known

        at : (b : Bool) → ends_owned x.role ≡ b → (is_end facts v x ≡ true) ⊎ (is_use facts v x ≡ true)
        at true is = inl (
            ap (λ o. has_any (ended_with o x) && (x.value.0 == v.0)) of
            ∙ ap (λ b. has_any (cond b (end_of x.value ∷ []) []) && (x.value.0 == v.0)) is ∙ here)
        at false is = inr (
            ap (λ o. list_any (λ k. k.subject.0 == v.0) (used_with o x)) of
            ∙ ap (λ b. list_any (λ k. k.subject.0 == v.0) (cond b [] (use_of x.value ∷ []))) is ∙ ap (λ b. b || false) here)

    used_among : (bs : List ValueId) (b : ValueId) → has bs b.0 ≡ true → list_any (λ k. k.subject.0 == b.0) (map use_of bs) ≡ true
    used_among [] b e = e
    used_among (c ∷ bs) b e = ⊎_elim (λ here. ap (λ t. t || list_any (λ k. k.subject.0 == b.0) (map use_of bs)) here)
        (λ later. second_true (c.0 == b.0) (list_any (λ k. k.subject.0 == b.0) (map use_of bs)) (used_among bs b later)) (or_cases (c.0 == b.0) (has bs b.0) e)

    -- and how one of a Guaranteed value touches its bases
    guaranteed_touched : (b : ValueId) (x : Taken) → Contains (item_taken f i) x → kind_at d f x.value ≡ kind.Guaranteed → IsBaseOf d f b x.value
        → (is_end facts b x ≡ true) ⊎ (is_use facts b x ≡ true)
    guaranteed_touched b x among guaranteed base = by_facts (facts x.value) refl guaranteed base
      where
        by_role : (bases : List ValueId) → facts x.value ≡ Some (record { kind = kind.Guaranteed; bases = bases }) → has bases b.0 ≡ true → (r : Bool) → ends_scope x.role ≡ r
            → (is_end facts b x ≡ true) ⊎ (is_use facts b x ≡ true)
        by_role bases known has_it true is =
            let borrow : is_borrow f x.value ≡ true = subst (λ r. SuitsRole d f r x.value) (scope_role x.role is) (suited m n f a i x among) in
            let l = lenders_own_bases m n f a x.value (inr borrow) in
            let own : has (x.value ∷ []) b.0 ≡ true = sym (ap (λ (o : Option Facts). has (known_or (λ _. o) x.value).bases b.0) l.facts) ∙ base in
            let here : (x.value.0 == b.0) ≡ true = ⊎_elim (λ e. e) (λ e. absurd (false≢true e)) (or_cases (x.value.0 == b.0) false own) in
            inl (
            ap (λ o. has_any (ended_with o x) && (x.value.0 == b.0)) known
            ∙ ap (λ r. has_any (cond r (end_of x.value ∷ []) []) && (x.value.0 == b.0)) is ∙ here)
        by_role bases known has_it false is = inr (
            ap (λ o. list_any (λ k. k.subject.0 == b.0) (used_with o x)) known
            ∙ ap (λ r. list_any (λ k. k.subject.0 == b.0) (cond r [] (map use_of bases))) is ∙ used_among bases b has_it)

        by_facts : (o : Option Facts) → facts x.value ≡ o → (known_or (λ _. o) x.value).kind ≡ kind.Guaranteed → has (known_or (λ _. o) x.value).bases b.0 ≡ true
            → (is_end facts b x ≡ true) ⊎ (is_use facts b x ≡ true)
        by_facts None known k has_it = absurd (false≢true has_it)
        by_facts (Some g) known k has_it =
            by_role g.bases (known ∙ ap (λ (q : Kind). Some (record { kind = q; bases = g.bases })) k) has_it (ends_scope x.role) refl

    base_there : (front rest : List Taken) (x : Taken) → item_taken f i ≡ front ++ x ∷ rest → TakesAddressesInScopes d f t i → (b : ValueId) → IsBaseOf d f b x.value
        → IsDefinedOn f t b → IsThere (entry_at entries b)
    base_there front rest x parts addresses b base made = at (kind_at d f x.value) refl
      where
        among : Contains (item_taken f i) x
        among = subst (λ ts. Contains ts x) (sym parts) (stands_behind front rest x)

        by_lender : IsLender d f b → (is_borrow f b ≡ true → IsThere (entry_at entries b)) → IsThere (entry_at entries b)
        by_lender l scope = ⊎_elim scope (λ none. lender_there b l none made) (cases_Bool (is_borrow f b))

        at : (k : Kind) → kind_at d f x.value ≡ k → IsThere (entry_at entries b)
        at kind.Owned is =
            let known = owned_own_bases m n f a x.value is in
            let own : has (x.value ∷ []) b.0 ≡ true = sym (ap (λ (o : Option Facts). has (known_or (λ _. o) x.value).bases b.0) known) ∙ base in
            let same : x.value ≡ b = same_value x.value b (⊎_elim (λ e. eqb-true x.value.0 b.0 e) (λ e. absurd (false≢true e)) (or_cases (x.value.0 == b.0) false own)) in
            subst (λ (v : ValueId). IsThere (entry_at entries v)) same
            (held_there x.value (record { is_value = owned_value m n f a x.value is; owned = ap is_owned is }) front rest x parts (owned_touched x.value x refl known))
        at kind.Guaranteed is =
            by_lender (lent_by_lenders m n f a x.value b is base) (λ borrow. used_there b (own_scope m n f a b borrow) front rest x parts (guaranteed_touched b x among is base))
        at kind.Plain is =
            by_lender (addresses_of_lenders m n f a x.value b is base) (λ borrow. scope_there b (own_scope m n f a b borrow) (addresses x b among is base borrow))

    current_operands : (lends : Lending) (memory : Memory) → TakesAddressesInScopes d f t i
        → Each (λ (x : Taken). IsCurrent d f lends memory entries t x.value) (item_taken f i)
    current_operands lends memory addresses =
        each_standing (λ x. IsCurrent d f lends memory entries t x.value) (item_taken f i) [] (item_taken f i) refl
        (λ front rest x parts b base.
        let as_made : IsAsMade f t b x.value =
        each_at (HasBasesAsMade d f t) front rest x
        (subst (Each (HasBasesAsMade d f t)) parts (bases_as_made d f accepted (bases_of_taken m n f a) (made_at_stops m n f a) t i h)) b base in
        (base_there front rest x parts addresses b base as_made.defined, as_made.since))

  -- ---- scopes

  module _ (entries left : List Entry) (t : List Item) (i : Item) (h : IsTurnedTrail f (i ∷ t)) (tracked : AreTracked d f t entries)
      (ends_are : without_ended facts (item_taken f i) entries ≡ Ok left) where
    -- a scope that is lent is open
    lent_open : (s : ValueId) (x : Datum) → is_borrow f s ≡ true → entry_at entries s ≡ Lent x → is_open d f s t ≡ Some true
    lent_open s x borrow e =
        let own = own_scope m n f a s borrow in
        let pass = scopes_passed d f accepted s own.scope t i h in
        at pass.on pass.was (tracked.scopes s own pass.on pass.was)
      where
        at : (on : Bool) → is_open d f s t ≡ Some on → IsWhile Lent on (entry_at entries s) → is_open d f s t ≡ Some true
        at true was w = was
        at false was w = cc

    -- and doesn't end where it is left
    left_unended : (s : ValueId) (x : Datum) → entry_at entries s ≡ Lent x → IsThere (entry_at left s) → list_any (is_end facts s) (item_taken f i) ≡ false
    left_unended s x e there = ⊎_elim (λ ended. absurd (there (ended_gone facts s (item_taken f i) entries left x e ended ends_are))) (λ none. none)
        (cases_Bool (list_any (is_end facts s) (item_taken f i)))

    borrowed : (s b : ValueId) (x : Datum) → is_borrow f s ≡ true → entry_at entries s ≡ Lent x → IsThere (entry_at left s) → BorrowsFrom d f s b
        → IsThere (entry_at entries b) → IsThere (entry_at left b)
    borrowed s b x borrow e there from there_b =
        subst IsThere (sym (unended_stays facts b (item_taken f i) entries left
        (bases_kept d f accepted s b (own_scope m n f a s borrow).scope from t i h (lent_open s x borrow e) (left_unended s x e there)) ends_are)) there_b

    not_renewed : (s : ValueId) (x : Datum) → is_borrow f s ≡ true → entry_at left s ≡ Lent x → makes f s i ≡ false
    not_renewed s x borrow e = ⊎_elim (λ made. absurd (never made)) (λ none. none) (cases_Bool (makes f s i))
      where
        own : IsOwnScope d f s
        own = own_scope m n f a s borrow

        there : IsThere (entry_at left s)
        there gone = cc

        was : entry_at entries s ≡ Lent x
        was = was_there entries left s (left_of facts (item_taken f i) entries left ends_are) there ∙ e

        never : makes f s i ≡ true → ⊥
        never made =
            let pass = scopes_passed d f accepted s own.scope t i h in
            let guaranteed = (and_parts (is_guaranteed (known_or facts s).kind) (is_borrow f s) own.scope.scope).0 in
            let r = first_of (is_begin facts s) (item_defined f i) (begins_where_made facts s (scope_begins facts s guaranteed own.own) f i made) in
            let off = second_false (list_any (is_begin facts s) r.front) (left_by facts s f i pass.on) (pass.found.begun r.front r.rest r.here r.parts r.passes) in
            let on : pass.on ≡ true = same_Some pass.on true (sym pass.was ∙ lent_open s x borrow was) in
            let stays : left_by facts s f i pass.on ≡ true = ap (λ b. on_behind facts s b (item_taken f i)) on ∙ ap not (left_unended s x was there) in
            true≢false (sym stays ∙ off)

  -- ---- arguments

  pub argument_made : (v : ValueId) → IsArgument f v → makes f v item.Entry ≡ true
  argument_made v lt = at (slice_get (args_of f 0) v.0) refl
    where
      at : (o : Option BlockArg) → slice_get (args_of f 0) v.0 ≡ o → has (map arg_value (args_of f 0)) v.0 ≡ true
      at None e = absurd (argument_none (args_of f 0) v.0 e lt)
      at (Some x) e = has_at (map arg_value (args_of f 0)) v.0 x.value (slice_get-map arg_value (args_of f 0) v.0 ∙ ap (option_map arg_value) e) (number_of_parameter m n f a v.0 x e)

  argument_unmade : (i : Item) → (i ≡ item.Entry → ⊥) → (v : ValueId) → IsArgument f v → makes f v i ≡ false
  argument_unmade i other v is = ⊎_elim
      (λ made. absurd (other (parameters_of_entry m n f a i v (makes_so f v item.Entry (argument_made v is)) (makes_so f v i made))))
      (λ none. none)
      (cases_Bool (makes f v i))

pub operands_current : AreOperandsCurrent
operands_current m n f a lends memory entries t i h along addresses = current_operands m n f a entries t i h along lends memory addresses

pub borrowed_kept : AreBorrowedKept
borrowed_kept m n f a entries left t i h tracked ends_are s b x borrow e there from there_b = borrowed m n f a entries left t i h tracked ends_are s b x borrow e there from there_b

pub scopes_not_renewed : AreScopesNotRenewed
scopes_not_renewed m n f a entries left t i h tracked ends_are s x borrow e = not_renewed m n f a entries left t i h tracked ends_are s x borrow e

pub arguments_of_entry : AreArgumentsOfEntry
arguments_of_entry m n f a i other v is = argument_unmade m n f a i other v is
