-- What borrows is a scope of its own: Guaranteed, and its own one base.
use Rattle.std.proofs.Common.{◌≡◌, refl, ap, ◌∙◌, false, ◌&&◌, ◌||◌, inr, Option, eq-eqb}
use Rattle.sil_verifier_values.specs.ownership_kinds_chains.OwnershipChains.Facts.{has, is_guaranteed, known_or}
use Rattle.sil_verifier_values.specs.ownership_kinds_chains.declared.ownership_chains.facts.Facts.{Facts}
use Rattle.sil_ast.specs.declared.function.Function.{Function}
use Rattle.sil_ast.specs.declared.place.ValueId.{ValueId}
use Rattle.sil_verifier_values.specs.sil_types_declarations.TypeDefinitions.Declarations.{Declarations, declarations_of}
use Rattle.sil_verifier_values.specs.sil_types_declarations.declared.type_definitions.kind.Kind.{Kind}
use Rattle.sil_verifier_values.specs.sil_types_declarations.declared.type_definitions.kind.Kind.TheVariants as kind
use Rattle.numbered_form.specs.ValueTables.Borrows.{is_borrow}
use Rattle.sil_verifier_values.specs.inner.Bases.{IsLender}
use Rattle.sil_verifier_values.specs.inner.Known.{kind_at}
use Rattle.sil_verifier_values.proofs.Based.{guaranteed_value, lenders_own_bases}
use Rattle.sil_verifier_trails.specs.ScopedAddresses.inner.Addresses.{AreBorrowsOwnScopes}

pub lender_kind : (d : Declarations) (f : Function) (b : ValueId) → IsLender d f b → kind_at d f b ≡ kind.Guaranteed
lender_kind d f b l = ap (λ (o : Option Facts). (known_or (λ _. o) b).kind) l.facts

pub own_scope : AreBorrowsOwnScopes
own_scope m n f a s borrow =
    let l = lenders_own_bases m n f a s (inr borrow) in
    let guaranteed = lender_kind (declarations_of m) f s l in
    record {
      scope = record {
        is_value = guaranteed_value m n f a s guaranteed;
        scope = ap (λ (k : Kind). is_guaranteed k && is_borrow f s) guaranteed ∙ borrow;
      };
      own = ap (λ (o : Option Facts). has (known_or (λ _. o) s).bases s.0) l.facts ∙ ap (λ b. b || false) (eq-eqb s.0 s.0 refl);
    }
