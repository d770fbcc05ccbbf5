-- What an item ends is an Owned value or a scope, which is its own base.
use Rattle.std.proofs.Common.{◌≡◌, ℕ, suc, ◌<◌, arith, List, [], ◌∷◌, ◌++◌, refl, sym, ap, ◌∙◌, subst, true, false, ◌&&◌, ◌||◌, ◌⊎◌, inl, inr, Option, Some, None, eq-eqb}
use Rattle.std.specs.Prelude.{Contains}
use Rattle.std.proofs.lemmas.Bool.{false≢true}
use Rattle.sil_verifier_values.specs.inner.Bases.{IsLender}
use Rattle.sil_verifier_values.specs.inner.Known.{kind_at}
use Rattle.sil_verifier_values.specs.inner.Operands.{SuitsRole}
use Rattle.sil_verifier_values.proofs.Based.{guaranteed_value, lenders_own_bases, owned_value}
use Rattle.sil_verifier_values.proofs.Suited.{suited}
use Rattle.sil_verifier_trails.specs.HeldEntries.inner.Tracked.{IsOwnScope}
use Rattle.sil_verifier_trails.specs.AcceptedTrails.inner.Lives.{IsOwnedIn}
use Rattle.sil_verifier_values.specs.holder_model.Frames.{ends, has_any}
use Rattle.instruction_table.specs.declared.entries.Role.{Role}
use Rattle.instruction_table.specs.declared.entries.Role.TheVariants as role
use Rattle.sil_cfg_items.specs.Items.{item_taken}
use Rattle.sil_cfg_items.specs.declared.taken.Taken.{Taken}
use Rattle.numbered_form.proofs.Lists.{contained}
use Rattle.sil_verifier_values.specs.ownership_kinds_chains.OwnershipChains.Facts.{has, is_guaranteed, is_owned, known_or}
use Rattle.sil_verifier_values.specs.ownership_kinds_chains.declared.ownership_chains.facts.Facts.{Facts}
use Rattle.sil_verifier_values.specs.ownership_kinds_origins.Facts.{facts_in}
use Rattle.sil_verifier_values.specs.ownership_kinds_chains.OwnershipMarks.Marks.{ended_by, ended_with}
use Rattle.sil_ast.specs.declared.place.ValueId.{ValueId}
use Rattle.sil_verifier_values.specs.sil_types_declarations.TypeDefinitions.Declarations.{declarations_of}
use Rattle.sil_verifier_values.specs.sil_types_declarations.declared.type_definitions.kind.Kind.{Kind}
use Rattle.sil_verifier_values.specs.sil_types_declarations.declared.type_definitions.kind.Kind.TheVariants as kind
use Rattle.numbered_form.specs.ValueTables.Borrows.{is_borrow}
use Rattle.sil_verifier_trails.specs.AcceptedPremises.inner.Laws.{AreEndsRight}

-- the operand is of an Owned value, or ends a scope
ended_kind : (k : Kind) (r : Role) (v : ValueId) → has_any (ended_by k r v) ≡ true → (k ≡ kind.Owned) ⊎ ((k ≡ kind.Guaranteed) × (r ≡ role.ScopeRole))
ended_kind kind.Owned r v e = inl refl
ended_kind kind.Guaranteed role.ScopeRole v e = inr (refl, refl)
ended_kind kind.Guaranteed role.Consumed v e = absurd (false≢true e)
ended_kind kind.Guaranteed role.Used v e = absurd (false≢true e)
ended_kind kind.Guaranteed role.Lent v e = absurd (false≢true e)
ended_kind kind.Guaranteed role.Forwarded v e = absurd (false≢true e)
ended_kind kind.Guaranteed role.AddressRole v e = absurd (false≢true e)
ended_kind kind.Guaranteed role.AnyRole v e = absurd (false≢true e)
ended_kind kind.Guaranteed role.ByParameter v e = absurd (false≢true e)
ended_kind kind.Guaranteed role.Counted v e = absurd (false≢true e)
ended_kind kind.Plain r v e = absurd (false≢true e)

ended_fact : (facts : ValueId → Option Facts) (x : Taken) → ends facts x ≡ true →
    ((known_or facts x.value).kind ≡ kind.Owned) ⊎ (((known_or facts x.value).kind ≡ kind.Guaranteed) × (x.role ≡ role.ScopeRole))
ended_fact facts x e = at (facts x.value) e
  where
    at : (o : Option Facts) → has_any (ended_with o x) ≡ true →
        ((known_or (λ _. o) x.value).kind ≡ kind.Owned) ⊎ (((known_or (λ _. o) x.value).kind ≡ kind.Guaranteed) × (x.role ≡ role.ScopeRole))
    at None h = absurd (false≢true h)
    at (Some k) h = ended_kind k.kind x.role x.value h

stands_behind : (front rest : List Taken) (x : Taken) → Contains (front ++ x ∷ rest) x
stands_behind [] rest x = contained (x ∷ rest) 0 x refl
stands_behind (y ∷ front) rest x = let c = stands_behind front rest x in (suc c.0, suc_less c.1, c.2)
  where
    suc_less : {a b : ℕ} → a < b → suc a < suc b
    suc_less lt = omega (arith, lt)

pub ends_right : AreEndsRight
ends_right m n f a i front rest x parts there = at (ended_fact (facts_in (declarations_of m) f) x there)
  where
    in_item : Contains (item_taken f i) x
    in_item = subst (λ xs. Contains xs x) (sym parts) (stands_behind front rest x)

    own_scope : kind_at (declarations_of m) f x.value ≡ kind.Guaranteed → is_borrow f x.value ≡ true → IsOwnScope (declarations_of m) f x.value
    own_scope guaranteed borrow =
        let lends : IsLender (declarations_of m) f x.value = lenders_own_bases m n f a x.value (inr borrow) in
        record {
          scope = record {
            is_value = guaranteed_value m n f a x.value guaranteed;
            scope = ap (λ (k : Kind). is_guaranteed k && is_borrow f x.value) guaranteed ∙ borrow;
          };
          own = ap (λ (o : Option Facts). has (known_or (λ _. o) x.value).bases x.value.0) lends.facts ∙ ap (λ b. b || false) (eq-eqb x.value.0 x.value.0 refl);
        }

    at : (kind_at (declarations_of m) f x.value ≡ kind.Owned) ⊎ ((kind_at (declarations_of m) f x.value ≡ kind.Guaranteed) × (x.role ≡ role.ScopeRole))
        → IsOwnedIn (declarations_of m) f x.value ⊎ IsOwnScope (declarations_of m) f x.value
    at (inl owned) = inl (record { is_value = owned_value m n f a x.value owned; owned = ap is_owned owned })
    at (inr scope) = inr (own_scope scope.0 (subst (λ r. SuitsRole (declarations_of m) f r x.value) scope.1 (suited m n f a i x in_item)))
