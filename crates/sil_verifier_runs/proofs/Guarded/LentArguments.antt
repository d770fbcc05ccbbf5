-- Arguments of an entry that are lent: each is its own base, or the address of a place in an object.
use Rattle.std.proofs.Common.{◌≡◌, ℕ, zero, suc, ◌<◌, List, [], ◌∷◌, length, map, refl, sym, ap, ◌∙◌, subst, Bool, true, false, ◌||◌, ◌⊎◌, inl, inr, Option, Some}
use Rattle.std.proofs.Common.{Ok, eq-eqb}
use Rattle.std.specs.Prelude.{slice_get}
use Rattle.std.proofs.lemmas.Option.{same_Some, slice_get_within}
use Rattle.sil_cfg_items.specs.Items.{arg_value, item_defined}
use Rattle.sil_verifier_frames.specs.ownership_kinds_chains.OwnershipChains.Chains.{operands_at}
use Rattle.sil_verifier_frames.specs.ownership_kinds_chains.OwnershipChains.Facts.{has, known_or, origin_at, told_by}
use Rattle.sil_verifier_frames.specs.ownership_kinds_chains.declared.ownership_chains.definition.Origin.{Origin}
use Rattle.sil_verifier_frames.specs.ownership_kinds_chains.declared.ownership_chains.definition.Origin.TheVariants as origin
use Rattle.sil_verifier_frames.specs.ownership_kinds_chains.declared.ownership_chains.facts.Facts.{Facts}
use Rattle.sil_verifier_frames.specs.ownership_kinds_origins.Origins.{arg_definition_by, definitions_of}
use Rattle.sil_verifier_frames.specs.ownership_kinds_origins.Switched.{switch_to}
use Rattle.sil_ast.specs.Blocks.{args_of}
use Rattle.sil_ast.specs.declared.function.ArgKind.{ArgKind}
use Rattle.sil_ast.specs.declared.function.ArgKind.TheVariants as annotation
use Rattle.sil_ast.specs.declared.function.BlockArg.{BlockArg}
use Rattle.sil_ast.specs.declared.function.Function.{Function}
use Rattle.sil_ast.specs.declared.module.Module.{Module}
use Rattle.sil_ast.specs.declared.place.ObjectId.{ObjectId}
use Rattle.sil_ast.specs.declared.place.ValueId.{ValueId}
use Rattle.sil_cfg.specs.declared.item.Item.TheVariants as item
use Rattle.sil_types_declarations.specs.TypeDefinitions.Declarations.{Declarations, declarations_of}
use Rattle.sil_types_declarations.specs.TypeDefinitions.Measures.{is_trivial}
use Rattle.sil_types_declarations.specs.declared.type_definitions.kind.Kind.{Kind}
use Rattle.sil_types_declarations.specs.declared.type_definitions.kind.Kind.TheVariants as kind
use Rattle.holder_model_values.specs.RunValues.Places.{Home, Inside, OnStack, Place}
use Rattle.holder_model_values.specs.RunValues.Values.{references_of}
use Rattle.sil_verifier_frames.specs.sil_verifier_trails.AcceptedTrails.inner.Bases.{IsBaseOf}
use Rattle.sil_verifier_frames.specs.sil_verifier_values.inner.Known.{IsAcceptedBody, facts_at, kind_at}
use Rattle.sil_verifier_frames.proofs.sil_verifier_values.Accepted.{counted}
use Rattle.sil_verifier_frames.proofs.sil_verifier_values.Based.{lenders_own_bases}
use Rattle.sil_verifier_frames.proofs.sil_verifier_values.Borrowed.{number_of_parameter}
use Rattle.sil_verifier_frames.proofs.sil_verifier_values.Facts.{facts_so}
use Rattle.sil_verifier_frames.proofs.sil_verifier_values.Places.{argument_is_value}
use Rattle.sil_verifier_frames.proofs.sil_verifier_values.TableRows.{argument_rows}
use Rattle.sil_verifier_frames.specs.holder_model.Data.{AddressOf, Datum, FunctionOf, ValueOf}
use Rattle.sil_verifier_frames.specs.holder_model.Faults.{WrongShape}
use Rattle.sil_verifier_frames.specs.holder_model.Frames.{Lent, Plain, has_any, made_entry, plain_address, plain_entry}
use Rattle.sil_verifier_frames.proofs.holder_model_laws.HolderLaws.Counts.Entries.{chosen_ok}
use Rattle.sil_verifier_runs.specs.inner.Guarded.Guards.{IsArgument}

-- ---- what is made lent

-- the address of a place in an object
pub record IsInObject (x : Datum) : Type 0 where
  pub place : Place
  pub object : ObjectId
  pub is : x ≡ AddressOf place
  pub home : place.home ≡ Inside object

address_lent : (p : Place) (home : Home) → p.home ≡ home → plain_address home (AddressOf p) ≡ Lent (AddressOf p) → IsInObject (AddressOf p)
address_lent p OnStack is e = absurd (cc)
address_lent p (Inside o) is e = record { place = p; object = o; is = refl; home = is }

plain_lent : (x : Datum) → plain_entry x ≡ Ok (Lent x) → IsInObject x
plain_lent (ValueOf y) e = let made = (chosen_ok (has_any (references_of y)) WrongShape (Ok (Plain (ValueOf y))) (Lent (ValueOf y)) e).1 in absurd (cc)
plain_lent (AddressOf p) e = let made : plain_address p.home (AddressOf p) ≡ Lent (AddressOf p) = cc in address_lent p p.home refl made
plain_lent (FunctionOf g) e = absurd (cc)

pub lent_made : (k : Kind) (x : Datum) → made_entry k x ≡ Ok (Lent x) → (k ≡ kind.Guaranteed) ⊎ ((k ≡ kind.Plain) × IsInObject x)
lent_made kind.Owned x e = absurd (cc)
lent_made kind.Guaranteed x e = inl refl
lent_made kind.Plain x e = inr (refl, plain_lent x e)

-- ---- arguments of the entry

pub mapped_at : {A B : Type 0} (g : A → B) (xs : List A) (k : ℕ) (y : B) → slice_get (map g xs) k ≡ Some y → (x : A) × (slice_get xs k ≡ Some x) × (g x ≡ y)
mapped_at g [] k y e = absurd (cc)
mapped_at g (x ∷ xs) zero y e = (x, refl, same_Some (g x) y e)
mapped_at g (x ∷ xs) (suc k) y e = mapped_at g xs k y e

module _ (m : Module) (n : ℕ) (f : Function) (a : IsAcceptedBody m n f) where
  abbrev d : Declarations
  d = declarations_of m

  module _ (k : ℕ) (x : BlockArg) (at : slice_get (args_of f 0) k ≡ Some x) where
    told : (o : Origin) → origin_at (definitions_of d f) x.value ≡ o
        → kind_at d f x.value ≡ (told_by (length (definitions_of d f)) x.value (facts_at d f) (operands_at (definitions_of d f) x.value) o).kind
    told o e =
        ap (λ (y : Facts). y.kind) (facts_so m n f a x.value (argument_is_value f (counted m n f a) 0 k x at))
        ∙ ap (λ (q : Origin). (told_by (length (definitions_of d f)) x.value (facts_at d f) (operands_at (definitions_of d f) x.value) q).kind) e

    lends : kind_at d f x.value ≡ kind.Guaranteed → (w : ArgKind) (t : Bool)
        → origin_at (definitions_of d f) x.value ≡ (arg_definition_by true (switch_to f 0) w t).origin → origin_at (definitions_of d f) x.value ≡ origin.Lender
    lends guaranteed annotation.Plain t e = let no : kind.Guaranteed ≡ kind.Plain = sym guaranteed ∙ told origin.Plain e in absurd (cc)
    lends guaranteed annotation.Owned true e = let no : kind.Guaranteed ≡ kind.Plain = sym guaranteed ∙ told origin.Plain e in absurd (cc)
    lends guaranteed annotation.Owned false e = let no : kind.Guaranteed ≡ kind.Owned = sym guaranteed ∙ told origin.Owned e in absurd (cc)
    lends guaranteed annotation.Guaranteed true e = let no : kind.Guaranteed ≡ kind.Plain = sym guaranteed ∙ told origin.Plain e in absurd (cc)
    lends guaranteed annotation.Guaranteed false e = e

    own : kind_at d f x.value ≡ kind.Guaranteed → IsBaseOf d f x.value x.value
    own guaranteed =
        let l = lenders_own_bases m n f a x.value (inl (lends guaranteed x.kind (is_trivial d x.ty) (argument_rows m n f a 0 k x at).defined.origin)) in
        ap (λ (o : Option Facts). has (known_or (λ _. o) x.value).bases x.value.0) l.facts ∙ ap (λ b. b || false) (eq-eqb x.value.0 x.value.0 refl)

  -- the k-th value that the entry defines
  pub parameter_at : (k : ℕ) (v : ValueId) → slice_get (item_defined f item.Entry) k ≡ Some v → (x : BlockArg) × (slice_get (args_of f 0) k ≡ Some x) × (x.value ≡ v)
  parameter_at k v e = mapped_at arg_value (args_of f 0) k v e

  pub is_argument : (k : ℕ) (v : ValueId) → slice_get (item_defined f item.Entry) k ≡ Some v → IsArgument f v
  is_argument k v e =
      let x = parameter_at k v e in
      let number : v.0 ≡ k = ap (λ (u : ValueId). u.0) (sym x.2) ∙ number_of_parameter m n f a k x.0 x.1 in
      subst (λ j. j < length (args_of f 0)) (sym number) (slice_get_within (args_of f 0) k x.0 x.1)

  pub own_base : (k : ℕ) (v : ValueId) → slice_get (item_defined f item.Entry) k ≡ Some v → kind_at d f v ≡ kind.Guaranteed → IsBaseOf d f v v
  own_base k v e guaranteed =
      let x = parameter_at k v e in
      subst (λ (u : ValueId). kind_at d f u ≡ kind.Guaranteed → IsBaseOf d f u u) x.2 (own k x.0 x.1) guaranteed
