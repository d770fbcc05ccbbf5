-- What results hold, by their kinds.
use Rattle.std.proofs.Common.{◌≡◌, inl, inr, ℕ, ◌+◌, List, [], ◌∷◌, refl, sym, ap, Option, Ok, arith}
use Rattle.numbered_form.specs.Lists.{Each}
use Rattle.sil_cfg_items.specs.declared.taken.Taken.{Taken}
use Rattle.ownership_kinds_chains.specs.declared.ownership_chains.facts.Facts.{Facts}
use Rattle.sil_ast.specs.declared.place.ObjectId.{ObjectId}
use Rattle.sil_ast.specs.declared.place.ValueId.{ValueId}
use Rattle.sil_types_declarations.specs.declared.type_definitions.kind.Kind.{Kind}
use Rattle.sil_types_declarations.specs.declared.type_definitions.kind.Kind.TheVariants as kind
use Rattle.sil_verifier_runs.specs.holder_model.Data.{AddressOf, Datum, FunctionOf, ValueOf, references_in}
use Rattle.sil_verifier_runs.specs.holder_model.Frames.{Entry, made_entry, put_entry, result_put, results_put}
use Rattle.sil_verifier_runs.specs.holder_model.Holders.{of_references}
use Rattle.sil_verifier_runs.specs.holder_model_laws.HolderLaws.inner.Counts.Naming.{in_data, in_datum}
use Rattle.sil_verifier_runs.specs.holder_model_laws.HolderLaws.inner.Counts.Taking.{owned_references, references_begun}
use Rattle.sil_verifier_runs.proofs.holder_model_laws.HolderLaws.Counts.Entries.{ok_through}
use Rattle.sil_verifier_runs.proofs.holder_model_laws.HolderLaws.Counts.Sums.{total_append, total_cons}
use Rattle.sil_verifier_runs.specs.holder_model_laws.StoredCounts.inner.Rows.{BringsAll, BringsNone}
use Rattle.sil_verifier_runs.proofs.sil_verifier_frames.Typed.Data.{IsBare, entry_bare}
use Rattle.ownership_lowering_runs.proofs.OwnedCounts.Taken.{kind_in}
use Rattle.ownership_lowering_runs.proofs.OwnedCounts.TakenOwned.{IsValue, MayEndBy}

module _ (facts : ValueId → Option Facts) (entries : List Entry) where
  abbrev pub MayHold : ValueId → Type 0
  MayHold v = MayEndBy (kind_in facts entries v)

  abbrev pub HoldsNothing : ValueId → Type 0
  HoldsNothing v = kind_in facts entries v ≡ kind.Owned → ⊥

  begun_cons : (weight : ObjectId → ℕ) (v : ValueId) (vs : List ValueId) (x : Datum) (xs : List Datum) → of_references weight (references_begun facts (v ∷ vs) (x ∷ xs))
      ≡ of_references weight (owned_references (kind_in facts entries v) x) + of_references weight (references_begun facts vs xs)
  begun_cons weight v vs x xs = total_append weight (owned_references (kind_in facts entries v) x) (references_begun facts vs xs)

  -- no result is Owned
  pub brings_none : (ts : List Taken) (vs : List ValueId) (xs rs : List Datum) → Each HoldsNothing vs → BringsNone facts entries ts vs xs rs
  brings_none ts [] xs rs none weight = refl
  brings_none ts (v ∷ vs) xs [] none weight = refl
  brings_none ts (v ∷ vs) xs (x ∷ rs) none weight =
      let both = begun_cons weight v vs x rs in
      let first = one (kind_in facts entries v) none.0 in
      let rest = brings_none ts vs xs rs none.1 weight in
      omega (arith, both, first, rest)
    where
      one : (k : Kind) → (k ≡ kind.Owned → ⊥) → of_references weight (owned_references k x) ≡ 0
      one kind.Owned never = absurd (never refl)
      one kind.Guaranteed never = refl
      one kind.Plain never = refl

  -- what is brought names nothing
  pub brings_bare : (ts : List Taken) (vs : List ValueId) (xs rs : List Datum) → Each (λ x. references_in x ≡ []) rs → BringsNone facts entries ts vs xs rs
  brings_bare ts [] xs rs bare weight = refl
  brings_bare ts (v ∷ vs) xs [] bare weight = refl
  brings_bare ts (v ∷ vs) xs (x ∷ rs) bare weight =
      let both = begun_cons weight v vs x rs in
      let first = one (kind_in facts entries v) in
      let rest = brings_bare ts vs xs rs bare.1 weight in
      omega (arith, both, first, rest)
    where
      one : (k : Kind) → of_references weight (owned_references k x) ≡ 0
      one kind.Owned = ap (of_references weight) bare.0
      one kind.Guaranteed = refl
      one kind.Plain = refl

  -- each is Owned, or a value without an owner, which names nothing
  pub brings_all : (ts : List Taken) (vs : List ValueId) (xs rs : List Datum) (left behind : List Entry) → results_put facts vs rs left ≡ Ok behind
      → Each MayHold vs → Each IsValue rs → BringsAll facts entries ts vs xs rs
  brings_all ts [] xs [] left behind put may are weight = refl
  brings_all ts [] xs (x ∷ rs) left behind put may are weight = cc
  brings_all ts (v ∷ vs) xs [] left behind put may are weight = cc
  brings_all ts (v ∷ vs) xs (x ∷ rs) left behind put may are weight =
      let middle = ok_through (results_put facts vs rs) (result_put facts v x left) behind put in
      let made = ok_through (put_entry left v) (made_entry (kind_in facts entries v) x) middle.0 middle.1 in
      let both = begun_cons weight v vs x rs in
      let first = one (kind_in facts entries v) x made.0 made.1 may.0 are.0 in
      let rest = brings_all ts vs xs rs middle.0 behind middle.2 may.1 are.1 weight in
      let whole : in_data weight (x ∷ rs) ≡ in_datum weight x + in_data weight rs = total_cons (in_datum weight) x rs in
      omega (arith, both, first, rest, whole)
    where
      none : (y : Datum) → IsValue y → IsBare y → in_datum weight y ≡ 0
      none (ValueOf v) is bare = ap (of_references weight) bare
      none (AddressOf p) is bare = absurd (let e = is.1 in cc)
      none (FunctionOf g) is bare = refl

      one : (k : Kind) (x : Datum) (e : Entry) → made_entry k x ≡ Ok e → MayEndBy k → IsValue x → of_references weight (owned_references k x) ≡ in_datum weight x
      one kind.Owned x e made may is = refl
      one kind.Guaranteed x e made (inl other) is = cc
      one kind.Guaranteed x e made (inr other) is = cc
      one kind.Plain x e made may is = sym (none x is (entry_bare x e made))
