-- A value of an accepted function is Owned, a scope, or one that no item ends. An item that takes one of the first two and doesn't end it uses it.
use Rattle.std.proofs.Common.{◌≡◌, ℕ, ◌<◌, arith, List, [], ◌∷◌, length, map, refl, sym, ap, ◌∙◌, Bool, true, false, cond, inr, Option, Some, None, eq-eqb}
use Rattle.std.specs.Prelude.{◌&&◌, ◌||◌, ◌==◌, slice_get}
use Rattle.std.specs.List.{list_any}
use Rattle.std.proofs.lemmas.Bool.{and_parts, false≢true, true≢false}
use Rattle.sil_ast.specs.declared.function.Block.{Block}
use Rattle.sil_ast.specs.declared.function.Function.{Function}
use Rattle.sil_ast.specs.declared.module.Module.{Module}
use Rattle.sil_ast.specs.declared.place.ValueId.{ValueId}
use Rattle.sil_cfg_items.specs.declared.taken.Taken.{Taken}
use Rattle.holder_model_laws.specs.ownership_kinds_chains.OwnershipChains.Facts.{has, is_guaranteed, is_owned, known_or}
use Rattle.holder_model_laws.specs.ownership_kinds_chains.declared.ownership_chains.facts.Facts.{Facts}
use Rattle.holder_model_laws.specs.ownership_kinds_chains.OwnershipMarks.Marks.{end_of, ended_with, ends_owned, ends_scope, use_of, used_with}
use Rattle.holder_model_laws.specs.ownership_kinds_chains.declared.ownership_marks.mark.Mark.{Mark}
use Rattle.sil_types_declarations.specs.TypeDefinitions.Declarations.{Declarations, declarations_of}
use Rattle.sil_types_declarations.specs.declared.type_definitions.kind.Kind.{Kind}
use Rattle.sil_types_declarations.specs.declared.type_definitions.kind.Kind.TheVariants as kind
use Rattle.numbered_form.specs.ValueTables.Borrows.{is_borrow}
use Rattle.sil_verifier_trails.specs.AcceptedTrails.inner.Accepted.{IsAcceptedIn}
use Rattle.sil_verifier_trails.specs.AcceptedTrails.inner.Lives.{IsOwnedIn}
use Rattle.sil_verifier_trails.specs.AcceptedTrails.inner.Passing.{is_use}
use Rattle.holder_model_laws.specs.holder_model.Frames.{ends, has_any}
use Rattle.sil_verifier_trails.specs.HeldEntries.inner.Tracked.{IsOwnScope}
use Rattle.sil_verifier_trails.proofs.AcceptedTrails.Unbroken.{are_accepted}
use Rattle.sil_verifier_trails.specs.sil_verifier_values.inner.Bases.{IsLender}
use Rattle.sil_verifier_trails.specs.sil_verifier_values.inner.Known.{IsAcceptedBody, kind_at}
use Rattle.sil_verifier_trails.specs.sil_verifier_accepted.AcceptedModules.inner.Checked.{IsVerified}
use Rattle.sil_verifier_trails.proofs.sil_verifier_values.Based.{guaranteed_value, lenders_own_bases, owned_value}
use Rattle.sil_verifier_frames.specs.inner.Tracked.TrackedStates.{NeverEnds}

has_blocks : (bs : List Block) → has_any bs ≡ true → 0 < length bs
has_blocks [] e = absurd (false≢true e)
has_blocks (b ∷ bs) e = omega arith

pub accepted_body : (m : Module) (n : ℕ) (f : Function) → IsVerified m → slice_get m.functions n ≡ Some f → has_any f.blocks ≡ true → IsAcceptedBody m n f
accepted_body m n f verified is bodied = record { verified = verified; body = record { there = is; body = has_blocks f.blocks bodied } }

pub accepted_in : (m : Module) (n : ℕ) (f : Function) → IsAcceptedBody m n f → IsAcceptedIn (declarations_of m) f
accepted_in m n f a = are_accepted m n f a.verified a.body

pub owned_kind : (k : Kind) → is_owned k ≡ true → k ≡ kind.Owned
owned_kind kind.Owned e = refl
owned_kind kind.Guaranteed e = absurd (false≢true e)
owned_kind kind.Plain e = absurd (false≢true e)

pub guaranteed_kind : (k : Kind) → is_guaranteed k ≡ true → k ≡ kind.Guaranteed
guaranteed_kind kind.Owned e = absurd (false≢true e)
guaranteed_kind kind.Guaranteed e = refl
guaranteed_kind kind.Plain e = absurd (false≢true e)

-- ---- three sorts of values

pub data HowItEnds (d : Declarations) (f : Function) (v : ValueId) : Type 0 where
  owned : IsOwnedIn d f v → HowItEnds d f v
  scope : IsOwnScope d f v → HowItEnds d f v
  never : NeverEnds d f v → HowItEnds d f v

module _ (m : Module) (n : ℕ) (f : Function) (a : IsAcceptedBody m n f) where
  pub is_owned_in : (v : ValueId) → is_owned (kind_at (declarations_of m) f v) ≡ true → IsOwnedIn (declarations_of m) f v
  is_owned_in v e = record { is_value = owned_value m n f a v (owned_kind (kind_at (declarations_of m) f v) e); owned = e }

  own_scope : (v : ValueId) → (is_guaranteed (kind_at (declarations_of m) f v) && is_borrow f v) ≡ true → IsOwnScope (declarations_of m) f v
  own_scope v e =
      let both = and_parts (is_guaranteed (kind_at (declarations_of m) f v)) (is_borrow f v) e in
      let lends : IsLender (declarations_of m) f v = lenders_own_bases m n f a v (inr both.1) in
      record {
        scope = record { is_value = guaranteed_value m n f a v (guaranteed_kind (kind_at (declarations_of m) f v) both.0); scope = e };
        own = ap (λ (o : Option Facts). has (known_or (λ _. o) v).bases v.0) lends.facts ∙ ap (λ b. b || false) (eq-eqb v.0 v.0 refl);
      }

  pub how_it_ends : (v : ValueId) → HowItEnds (declarations_of m) f v
  how_it_ends v = by (is_owned (kind_at (declarations_of m) f v)) refl (is_guaranteed (kind_at (declarations_of m) f v) && is_borrow f v) refl
    where
      by : (o : Bool) → is_owned (kind_at (declarations_of m) f v) ≡ o → (s : Bool) → (is_guaranteed (kind_at (declarations_of m) f v) && is_borrow f v) ≡ s
          → HowItEnds (declarations_of m) f v
      by true o s e = HowItEnds.owned (is_owned_in v o)
      by false o true e = HowItEnds.scope (own_scope v e)
      by false o false e =
          HowItEnds.never (record { not_owned = λ h. true≢false (sym h.owned ∙ o); not_scope = λ h. true≢false (sym h.scope.scope ∙ e) })

-- ---- uses

-- the mark that a role makes of a value, or none
used_unless : (b : Bool) (end more : List Mark) (uses : List Mark → Bool) → has_any (cond b end []) ≡ false → has_any end ≡ true → uses more ≡ true → uses (cond b [] more) ≡ true
used_unless true end more uses none some h = absurd (true≢false (sym some ∙ none))
used_unless false end more uses none some h = h

uses_bases : (v : ValueId) (bs : List ValueId) → list_any (λ (k : Mark). k.subject.0 == v.0) (map use_of bs) ≡ has bs v.0
uses_bases v [] = refl
uses_bases v (b ∷ bs) = ap (λ x. (b.0 == v.0) || x) (uses_bases v bs)

module _ (facts : ValueId → Option Facts) (x : Taken) where
  abbrev is_of : List Mark → Bool
  is_of ks = list_any (λ (k : Mark). k.subject.0 == x.value.0) ks

  pub owned_is_used : is_owned (known_or facts x.value).kind ≡ true → ends facts x ≡ false → is_use facts x.value x ≡ true
  owned_is_used owns none = at (facts x.value) owns none
    where
      by_kind : (k : Kind) (bases : List ValueId) → is_owned k ≡ true → has_any (ended_with (Some (record { kind = k; bases = bases })) x) ≡ false
          → is_of (used_with (Some (record { kind = k; bases = bases })) x) ≡ true
      by_kind kind.Owned bases e none =
          used_unless (ends_owned x.role) (end_of x.value ∷ []) (use_of x.value ∷ []) is_of none refl (ap (λ b. b || false) (eq-eqb x.value.0 x.value.0 refl))
      by_kind kind.Guaranteed bases e none = absurd (false≢true e)
      by_kind kind.Plain bases e none = absurd (false≢true e)

      at : (o : Option Facts) → is_owned (known_or (λ _. o) x.value).kind ≡ true → has_any (ended_with o x) ≡ false → is_of (used_with o x) ≡ true
      at None e none = absurd (false≢true e)
      at (Some k) e none = by_kind k.kind k.bases e none

  pub scope_is_used : is_guaranteed (known_or facts x.value).kind ≡ true → has (known_or facts x.value).bases x.value.0 ≡ true → ends facts x ≡ false
      → is_use facts x.value x ≡ true
  scope_is_used lends own none = at (facts x.value) lends own none
    where
      by_kind : (k : Kind) (bases : List ValueId) → is_guaranteed k ≡ true → has bases x.value.0 ≡ true → has_any (ended_with (Some (record { kind = k; bases = bases })) x) ≡ false
          → is_of (used_with (Some (record { kind = k; bases = bases })) x) ≡ true
      by_kind kind.Owned bases e own none = absurd (false≢true e)
      by_kind kind.Guaranteed bases e own none =
          used_unless (ends_scope x.role) (end_of x.value ∷ []) (map use_of bases) is_of none refl (uses_bases x.value bases ∙ own)
      by_kind kind.Plain bases e own none = absurd (false≢true e)

      at : (o : Option Facts) → is_guaranteed (known_or (λ _. o) x.value).kind ≡ true → has (known_or (λ _. o) x.value).bases x.value.0 ≡ true
          → has_any (ended_with o x) ≡ false → is_of (used_with o x) ≡ true
      at None e own none = absurd (false≢true e)
      at (Some k) e own none = by_kind k.kind k.bases e own none
