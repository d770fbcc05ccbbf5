-- Entries that go along with the marks of a trail go on along with them.
use Rattle.std.proofs.Common.{◌≡◌, List, [], ◌∷◌, ◌++◌, refl, sym, ap, ◌∙◌, subst, Bool, true, false, not, ◌&&◌, ◌||◌, Option, Some, Ok, eq-eqb}
use Rattle.std.specs.Prelude.{◌==◌, option_map}
use Rattle.std.specs.List.{list_any}
use Rattle.std.proofs.lemmas.Bool.{and_parts, cases_Bool, eqb-true, false≢true, not-true, or_cases, true≢false}
use Rattle.std.proofs.lemmas.Option.{same_Some}
use Rattle.sil_verifier_trails.specs.AcceptedTrails.inner.Lives as lives
use Rattle.sil_verifier_trails.specs.AcceptedTrails.inner.Lives.{is_open}
use Rattle.sil_verifier_trails.specs.AcceptedTrails.inner.Passing.{IsPassed, is_begin, is_end, is_use, left_by}
use Rattle.sil_verifier_trails.proofs.AcceptedTrails.BasesOpen.{begins_where_made, made_where_begun, owned_begins, scope_begins}
use Rattle.sil_verifier_trails.proofs.AcceptedTrails.LivesPassed.{lives_passed}
use Rattle.sil_verifier_trails.proofs.AcceptedTrails.ScopesPassed.{scopes_passed}
use Rattle.sil_verifier_trails.proofs.AcceptedTrails.Tests.{either, same_value}
use Rattle.sil_verifier_values.specs.holder_model.Data.{Datum}
use Rattle.sil_verifier_values.specs.holder_model.Frames.{Entry, Gone, Held, Lent, ends, entry_at, has_any, is_held, made_entry}
use Rattle.sil_verifier_values.specs.ownership_kinds_chains.OwnershipMarks.Marks.{begun}
use Rattle.sil_cfg_items.specs.Items.{item_defined, item_taken}
use Rattle.sil_cfg_items.specs.declared.taken.Taken.{Taken}
use Rattle.sil_verifier_values.specs.ownership_kinds_chains.OwnershipChains.Facts.{has, is_guaranteed, is_owned, known_or}
use Rattle.sil_verifier_values.specs.ownership_kinds_chains.declared.ownership_chains.facts.Facts.{Facts}
use Rattle.sil_verifier_values.specs.ownership_kinds_origins.Facts.{facts_in}
use Rattle.sil_ast.specs.declared.function.Function.{Function}
use Rattle.sil_ast.specs.declared.place.ValueId.{ValueId}
use Rattle.sil_cfg.specs.declared.item.Item.{Item}
use Rattle.sil_verifier_values.specs.sil_types_declarations.declared.type_definitions.kind.Kind.{Kind}
use Rattle.sil_verifier_values.specs.sil_types_declarations.declared.type_definitions.kind.Kind.TheVariants as kind
use Rattle.sil_verifier_trails.specs.HeldEntries.inner.Entries.{AreEnded, AreMade, Begin, CanEnd, HasEach}
use Rattle.sil_verifier_trails.specs.HeldEntries.inner.Tracked.{AreThereWhereUsed, AreTrackedBehind, HoldsWhile, IsWhile, MayEndWhereTracked, NoneHeldAtReturn}

-- ---- one value, whose entry is of one form while it is on, and gone while it is off

on_by : (o : Option Bool) (on b : Bool) (g : Bool → Bool) → o ≡ Some on → option_map g o ≡ Some b → b ≡ g on
on_by o on b g was e = same_Some b (g on) (sym e ∙ ap (option_map g) was)

-- what was made is the entry of a value that is among those made
made_at : (facts : ValueId → Option Facts) (behind : List Entry) (v : ValueId) (vs : List ValueId) (xs : List Datum) (es : List Entry) → AreMade facts vs xs es → HasEach behind vs es →
    has vs v.0 ≡ true → (x : Datum) × (made_entry (known_or facts v).kind x ≡ Ok (entry_at behind v))
made_at facts behind v [] xs es made each there = absurd (false≢true there)
made_at facts behind v (w ∷ vs) [] es made each there = absurd made
made_at facts behind v (w ∷ vs) (x ∷ xs) [] made each there = absurd made
made_at facts behind v (w ∷ vs) (x ∷ xs) (e ∷ es) made each there =
    either (λ same. here (same_value w v (eqb-true w.0 v.0 same))) (λ later. made_at facts behind v vs xs es made.1 each.1 later) (or_cases (w.0 == v.0) (has vs v.0) there)
  where
    here : w ≡ v → (x : Datum) × (made_entry (known_or facts v).kind x ≡ Ok (entry_at behind v))
    here same = (x, subst (λ (u : ValueId). made_entry (known_or facts u).kind x ≡ Ok (entry_at behind u)) same (made.0 ∙ ap Ok (sym each.0)))

module _ (facts : ValueId → Option Facts) (f : Function) (v : ValueId) (state : List Item → Option Bool) (form : Datum → Entry) (t : List Item) (i : Item)
    (pass : IsPassed facts v state f t i) where
  -- behind the ends
  left_tracked : (entries left : List Entry) → ((on : Bool) → state t ≡ Some on → IsWhile form on (entry_at entries v)) → AreEnded facts (item_taken f i) entries left →
      (b : Bool) → option_map (left_by facts v f i) (state t) ≡ Some b → IsWhile form b (entry_at left v)
  left_tracked entries left tracked ended b e =
      subst (λ c. IsWhile form c (entry_at left v)) (sym (on_by (state t) pass.on b (left_by facts v f i) pass.was e))
      (at (list_any (is_end facts v) (item_taken f i)) refl pass.on (tracked pass.on pass.was))
    where
      at : (any : Bool) → list_any (is_end facts v) (item_taken f i) ≡ any → (on : Bool) → IsWhile form on (entry_at entries v) → IsWhile form (on && not any) (entry_at left v)
      at true is true h = ended.gone v is
      at true is false h = ended.gone v is
      at false is true h = (h.0, ended.others v is ∙ h.1)
      at false is false h = ended.others v is ∙ h

  -- behind the results
  behind_tracked : (xs : List Datum) (es left : List Entry) → (put : Begin facts (item_defined f i) xs es left) → AreMade facts (item_defined f i) xs es →
      has_any (begun facts v) ≡ true → ((x : Datum) (e : Entry) → made_entry (known_or facts v).kind x ≡ Ok e → e ≡ form x) →
      ((b : Bool) → option_map (left_by facts v f i) (state t) ≡ Some b → IsWhile form b (entry_at left v)) →
      (on : Bool) → state (i ∷ t) ≡ Some on → IsWhile form on (entry_at put.behind v)
  behind_tracked xs es left put made own makes_form tracked on e =
      subst (λ c. IsWhile form c (entry_at put.behind v)) (same_Some (list_any (is_begin facts v) (item_defined f i) || left_by facts v f i pass.on) on (sym pass.is_left ∙ e))
      (at (list_any (is_begin facts v) (item_defined f i)) refl)
    where
      at : (any : Bool) → list_any (is_begin facts v) (item_defined f i) ≡ any → IsWhile form (any || left_by facts v f i pass.on) (entry_at put.behind v)
      at true is =
          let x = made_at facts put.behind v (item_defined f i) xs es made put.made (made_where_begun facts v f i is) in
          (x.0, makes_form x.0 (entry_at put.behind v) x.1)
      at false is =
          let none : has (item_defined f i) v.0 ≡ false =
          either (λ there. absurd (true≢false (sym (begins_where_made facts v own f i there) ∙ is))) (λ no. no) (cases_Bool (has (item_defined f i) v.0)) in
          subst (IsWhile form (left_by facts v f i pass.on)) (sym (put.others v none)) (tracked (left_by facts v f i pass.on) (ap (option_map (left_by facts v f i)) pass.was))

  -- behind the ends it is on where the item uses it
  used_there : (left : List Entry) → ((b : Bool) → option_map (left_by facts v f i) (state t) ≡ Some b → IsWhile form b (entry_at left v)) →
      list_any (is_use facts v) (item_taken f i) ≡ true → IsWhile form true (entry_at left v)
  used_there left tracked uses =
      subst (λ b. IsWhile form b (entry_at left v)) (pass.found.used uses) (tracked (left_by facts v f i pass.on) (ap (option_map (left_by facts v f i)) pass.was))

  -- an operand that ends the value finds its entry
  found_there : (entries : List Entry) → ((on : Bool) → state t ≡ Some on → IsWhile form on (entry_at entries v)) → ((x : Datum) → CanEnd (form x)) →
      (front rest : List Taken) (x : Taken) → item_taken f i ≡ front ++ x ∷ rest → is_end facts v x ≡ true → CanEnd (entry_at entries v) × (list_any (is_end facts v) front ≡ false)
  found_there entries tracked can front rest x parts there =
      let both = and_parts pass.on (not (list_any (is_end facts v) front)) (pass.found.ended front rest x parts there) in
      let entry = subst (λ b. IsWhile form b (entry_at entries v)) both.0 (tracked pass.on pass.was) in
      (subst CanEnd (sym entry.1) (can entry.0), not-true (list_any (is_end facts v) front) both.1)

made_held : (k : Kind) (x : Datum) (e : Entry) → is_owned k ≡ true → made_entry k x ≡ Ok e → e ≡ Held x
made_held kind.Owned x e owned h = cc
made_held kind.Guaranteed x e owned h = absurd (false≢true owned)
made_held kind.Plain x e owned h = absurd (false≢true owned)

made_lent : (k : Kind) (x : Datum) (e : Entry) → is_guaranteed k ≡ true → made_entry k x ≡ Ok e → e ≡ Lent x
made_lent kind.Owned x e guaranteed h = absurd (false≢true guaranteed)
made_lent kind.Guaranteed x e guaranteed h = cc
made_lent kind.Plain x e guaranteed h = absurd (false≢true guaranteed)

ends_itself : (facts : ValueId → Option Facts) (x : Taken) → ends facts x ≡ true → is_end facts x.value x ≡ true
ends_itself facts x e = ap (λ b. b && (x.value.0 == x.value.0)) e ∙ eq-eqb x.value.0 x.value.0 refl

pub may_end_where_tracked : MayEndWhereTracked
may_end_where_tracked d f accepted t i h suits entries tracked =
    let facts = facts_in d f in (
      λ front rest x parts there. either
          (λ owned. found_there facts f x.value (λ t. lives.is_held d f x.value t) Held t i (lives_passed d f accepted x.value owned t i h) entries (tracked.owned x.value owned) (λ y. tt)
          front rest x parts (ends_itself facts x there))
          (λ own. found_there facts f x.value (λ t. is_open d f x.value t) Lent t i (scopes_passed d f accepted x.value own.scope t i h) entries (tracked.scopes x.value own) (λ y. tt)
          front rest x parts (ends_itself facts x there))
          (suits front rest x parts there),
      λ left ended. record {
        owned = λ v owned. left_tracked facts f v (λ t. lives.is_held d f v t) Held t i (lives_passed d f accepted v owned t i h) entries left (tracked.owned v owned) ended;
        scopes = λ s own. left_tracked facts f s (λ t. is_open d f s t) Lent t i (scopes_passed d f accepted s own.scope t i h) entries left (tracked.scopes s own) ended;
      },
    )

pub there_where_used : AreThereWhereUsed
there_where_used d f accepted t i h left tracked = (
  λ v owned. used_there (facts_in d f) f v (λ t. lives.is_held d f v t) Held t i (lives_passed d f accepted v owned t i h) left (tracked.owned v owned),
  λ s own. used_there (facts_in d f) f s (λ t. is_open d f s t) Lent t i (scopes_passed d f accepted s own.scope t i h) left (tracked.scopes s own),
)

pub tracked_behind : AreTrackedBehind
tracked_behind d f accepted t i h xs es left tracked made put = record {
  owned = λ v owned. behind_tracked (facts_in d f) f v (λ t. lives.is_held d f v t) Held t i (lives_passed d f accepted v owned t i h) xs es left put made
      (owned_begins (facts_in d f) v owned.owned) (λ x e. made_held (known_or (facts_in d f) v).kind x e owned.owned) (tracked.owned v owned);
  scopes = λ s own.
      let guaranteed = (and_parts (is_guaranteed (known_or (facts_in d f) s).kind) _ own.scope.scope).0 in
      behind_tracked (facts_in d f) f s (λ t. is_open d f s t) Lent t i (scopes_passed d f accepted s own.scope t i h) xs es left put made
      (scope_begins (facts_in d f) s guaranteed own.own) (λ x e. made_lent (known_or (facts_in d f) s).kind x e guaranteed) (tracked.scopes s own);
}

pub none_held_at_return : NoneHeldAtReturn
none_held_at_return d f accepted t i h returns left tracked v owned =
    let facts = facts_in d f in
    let pass = lives_passed d f accepted v owned t i h in
    let off = pass.found.returned returns in
    let gone : entry_at left v ≡ Gone =
    subst (λ b. HoldsWhile b (entry_at left v)) off (tracked.owned v owned (left_by facts v f i pass.on) (ap (option_map (left_by facts v f i)) pass.was)) in
    ap is_held gone
