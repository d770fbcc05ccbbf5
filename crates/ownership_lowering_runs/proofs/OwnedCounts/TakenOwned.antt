-- What operands hold that end, by their kinds and by what is done to them.
use Rattle.std.proofs.Common.{◌≡◌, ◌⊎◌, inl, inr, ℕ, ◌+◌, List, [], ◌∷◌, refl, sym, ap, ◌∙◌, Bool, true, false, cond, Option, Some, None, Ok, arith}
use Rattle.std.specs.Prelude.{unwrap_or}
use Rattle.std.specs.List.{AllZip}
use Rattle.std.proofs.lemmas.Option.{same_Some}
use Rattle.instruction_table.specs.declared.entries.Role.{Role}
use Rattle.numbered_form.specs.Lists.{Each}
use Rattle.sil_cfg_items.specs.declared.taken.Taken.{Taken}
use Rattle.ownership_kinds_chains.specs.OwnershipChains.Facts.{facts_with}
use Rattle.ownership_kinds_chains.specs.declared.ownership_chains.facts.Facts.{Facts}
use Rattle.ownership_kinds_chains.specs.OwnershipMarks.Marks.{end_of, ended_with, ends_owned, ends_scope}
use Rattle.sil_ast.specs.declared.place.ObjectId.{ObjectId}
use Rattle.sil_ast.specs.declared.place.ValueId.{ValueId}
use Rattle.sil_types_declarations.specs.declared.type_definitions.kind.Kind.{Kind}
use Rattle.sil_types_declarations.specs.declared.type_definitions.kind.Kind.TheVariants as kind
use Rattle.holder_model_values.specs.RunValues.Values.{Value}
use Rattle.sil_verifier_runs.specs.holder_model.Data.{AddressOf, Datum, FunctionOf, ValueOf}
use Rattle.sil_verifier_runs.specs.holder_model.Frames.{Entry, Held, datum_in, ends, entry_at, has_any, held_references, made_entry}
use Rattle.sil_verifier_runs.specs.holder_model.HolderStates.{in_entry}
use Rattle.sil_verifier_runs.specs.holder_model.Holders.{of_references}
use Rattle.sil_verifier_runs.specs.holder_model_laws.HolderLaws.inner.Counts.Naming.{in_data, in_datum}
use Rattle.sil_verifier_runs.specs.holder_model_laws.HolderLaws.inner.Counts.Taking.{owned_references, references_ended, references_ended_by}
use Rattle.sil_verifier_runs.proofs.holder_model_laws.HolderLaws.Counts.Entries.{made_total}
use Rattle.sil_verifier_runs.proofs.holder_model_laws.HolderLaws.Counts.Sums.{total_append, total_cons}
use Rattle.sil_verifier_runs.specs.holder_model_laws.StoredCounts.inner.Rows.{TakesAll, TakesNone}
use Rattle.sil_verifier_runs.proofs.sil_verifier_frames.Typed.Data.{IsBare}
use Rattle.ownership_lowering_runs.proofs.OwnedCounts.Taken.{IsTakenAs, kind_in}

-- the role ends a value of this kind
abbrev pub ends_kind : Kind → Role → Bool
ends_kind kind.Owned r = ends_owned r
ends_kind kind.Guaranteed r = ends_scope r
ends_kind kind.Plain r = false

-- a value that an Owned kind or none has
abbrev pub MayEndBy : Kind → Type 0
MayEndBy k = (k ≡ kind.Owned) ⊎ (k ≡ kind.Plain)

abbrev pub IsValue : Datum → Type 0
IsValue x = (v : Value) × (x ≡ ValueOf v)

module _ (facts : ValueId → Option Facts) (entries : List Entry) where
  ends_is : (t : Taken) → ends facts t ≡ ends_kind (kind_in facts entries t.value) t.role
  ends_is t = at (facts t.value)
    where
      owned : (b : Bool) → has_any (cond b (end_of t.value ∷ []) []) ≡ b
      owned true = refl
      owned false = refl

      by : (k : Kind) (bases : List ValueId) → has_any (ended_with (Some (facts_with k bases)) t) ≡ ends_kind k t.role
      by kind.Owned bases = owned (ends_owned t.role)
      by kind.Guaranteed bases = owned (ends_scope t.role)
      by kind.Plain bases = refl

      at : (o : Option Facts) → has_any (ended_with o t) ≡ ends_kind (unwrap_or o (facts_with kind.Plain [])).kind t.role
      at None = refl
      at (Some f) = by f.kind f.bases

  module _ (weight : ObjectId → ℕ) where
    -- what an entry that was made holds
    held_total : (k : Kind) (y x : Datum) (e : Entry) → made_entry k y ≡ Ok e → datum_in e ≡ Some x → in_entry weight e ≡ of_references weight (owned_references k x)
    held_total kind.Owned y x e made there =
        let is : Held y ≡ e = cc in
        let same : y ≡ x = same_Some y x (ap datum_in is ∙ there) in
        made_total weight facts kind.Owned y e made ∙ ap (λ (z : Datum). in_datum weight z) same
    held_total kind.Guaranteed y x e made there = made_total weight facts kind.Guaranteed y e made
    held_total kind.Plain y x e made there = made_total weight facts kind.Plain y e made

    -- what it takes away where it ends
    pub taken_total : (t : Taken) (x : Datum) → IsTakenAs facts entries t x
        → of_references weight (references_ended_by facts entries t)
        ≡ cond (ends_kind (kind_in facts entries t.value) t.role) (of_references weight (owned_references (kind_in facts entries t.value) x)) 0
    taken_total t x h = at (ends facts t) (ends_kind (kind_in facts entries t.value) t.role) (ends_is t)
      where
        held : in_entry weight (entry_at entries t.value) ≡ of_references weight (owned_references (kind_in facts entries t.value) x)
        held = held_total (kind_in facts entries t.value) h.datum x (entry_at entries t.value) h.made h.there

        at : (b c : Bool) → b ≡ c → of_references weight (cond b (held_references (entry_at entries t.value)) []) ≡ cond c (of_references weight (owned_references (kind_in facts entries t.value) x)) 0
        at true true e = held
        at true false e = cc
        at false true e = cc
        at false false e = refl

    -- one that isn't Owned, or isn't ended by its role, takes nothing away
    pub keeps_one : (t : Taken) (x : Datum) → IsTakenAs facts entries t x → (ends_owned t.role ≡ false) ⊎ (kind_in facts entries t.value ≡ kind.Owned → ⊥)
        → of_references weight (references_ended_by facts entries t) ≡ 0
    keeps_one t x h keeps = taken_total t x h ∙ at (kind_in facts entries t.value) keeps
      where
        zero_of : (b : Bool) → ◌≡◌ {A = ℕ} (cond b 0 0) 0
        zero_of true = refl
        zero_of false = refl

        at : (k : Kind) → (ends_owned t.role ≡ false) ⊎ (k ≡ kind.Owned → ⊥) → cond (ends_kind k t.role) (of_references weight (owned_references k x)) 0 ≡ 0
        at kind.Owned (inl e) = ap (λ b. cond b (of_references weight (owned_references kind.Owned x)) 0) e
        at kind.Owned (inr never) = absurd (never refl)
        at kind.Guaranteed keeps = zero_of (ends_scope t.role)
        at kind.Plain keeps = refl

    -- a value that may end takes away what it names
    pub gives_one : (t : Taken) (x : Datum) → IsTakenAs facts entries t x → ends_owned t.role ≡ true → MayEndBy (kind_in facts entries t.value) → IsValue x
        → of_references weight (references_ended_by facts entries t) ≡ in_datum weight x
    gives_one t x h role may is = taken_total t x h ∙ at (kind_in facts entries t.value) may h.bare
      where
        none : (y : Datum) → IsValue y → IsBare y → in_datum weight y ≡ 0
        none (ValueOf v) is bare = ap (of_references weight) bare
        none (AddressOf p) is bare = absurd (let e = is.1 in cc)
        none (FunctionOf g) is bare = refl

        at : (k : Kind) → MayEndBy k → (k ≡ kind.Plain → IsBare x) → cond (ends_kind k t.role) (of_references weight (owned_references k x)) 0 ≡ in_datum weight x
        at kind.Owned may bare = ap (λ b. cond b (of_references weight (owned_references kind.Owned x)) 0) role
        at kind.Guaranteed (inl e) bare = cc
        at kind.Guaranteed (inr e) bare = cc
        at kind.Plain may bare = sym (none x is (bare refl))

  -- ---- all operands

  abbrev pub Keeps : Taken → Type 0
  Keeps t = (ends_owned t.role ≡ false) ⊎ (kind_in facts entries t.value ≡ kind.Owned → ⊥)

  pub record GivesUp (t : Taken) : Type 0 where
    pub role : ends_owned t.role ≡ true
    pub may : MayEndBy (kind_in facts entries t.value)

  ended_cons : (weight : ObjectId → ℕ) (t : Taken) (ts : List Taken) → of_references weight (references_ended facts entries (t ∷ ts))
      ≡ of_references weight (references_ended_by facts entries t) + of_references weight (references_ended facts entries ts)
  ended_cons weight t ts = total_append weight (references_ended_by facts entries t) (references_ended facts entries ts)

  pub takes_none : (vs : List ValueId) (ts : List Taken) (xs : List Datum) → AllZip (IsTakenAs facts entries) ts xs → Each Keeps ts → TakesNone facts entries ts vs xs
  takes_none vs [] [] given keeps weight = refl
  takes_none vs [] (x ∷ xs) given keeps weight = absurd given
  takes_none vs (t ∷ ts) [] given keeps weight = absurd given
  takes_none vs (t ∷ ts) (x ∷ xs) given keeps weight =
      let both = ended_cons weight t ts in
      let first = keeps_one weight t x given.0 keeps.0 in
      let rest = takes_none vs ts xs given.1 keeps.1 weight in
      omega (arith, both, first, rest)

  pub takes_all : (vs : List ValueId) (ts : List Taken) (xs : List Datum) → AllZip (IsTakenAs facts entries) ts xs → Each GivesUp ts → Each IsValue xs → TakesAll facts entries ts vs xs
  takes_all vs [] [] given gives are weight = refl
  takes_all vs [] (x ∷ xs) given gives are weight = absurd given
  takes_all vs (t ∷ ts) [] given gives are weight = absurd given
  takes_all vs (t ∷ ts) (x ∷ xs) given gives are weight =
      let both = ended_cons weight t ts in
      let first = gives_one weight t x given.0 gives.0.role gives.0.may are.0 in
      let rest = takes_all vs ts xs given.1 gives.1 are.1 weight in
      let whole : in_data weight (x ∷ xs) ≡ in_datum weight x + in_data weight xs = total_cons (in_datum weight) x xs in
      omega (arith, both, first, rest, whole)
