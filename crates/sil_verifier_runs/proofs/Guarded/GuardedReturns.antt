-- What a function returns is put right in the frame that waits for it: the result of a call is Owned or a value without references.
use Rattle.std.proofs.Common.{◌≡◌, ℕ, zero, suc, List, [], ◌∷◌, sym, ap, ◌∙◌, true, false, ◌||◌, ◌⊎◌, inr, ⊎_elim, Option, Some, Ok}
use Rattle.std.specs.Prelude.{◌==◌, slice_get}
use Rattle.std.proofs.lemmas.Bool.{cases_Bool, eqb-true, false≢true, or_cases}
use Rattle.std.proofs.lemmas.Option.{same_Some}
use Rattle.sil_cfg_items.specs.Items.{item_defined}
use Rattle.sil_cfg_items.specs.Parts.{inst_at}
use Rattle.sil_verifier_frames.specs.ownership_kinds_chains.OwnershipChains.Facts.{has, known_or}
use Rattle.sil_verifier_frames.specs.ownership_kinds_chains.declared.ownership_chains.facts.Facts.{Facts}
use Rattle.sil_ast.specs.declared.function.Function.{Function}
use Rattle.sil_ast.specs.declared.inst.Inst.{Inst}
use Rattle.sil_ast.specs.declared.module.Module.{Module}
use Rattle.sil_ast.specs.declared.place.PointId.{PointId}
use Rattle.sil_ast.specs.declared.place.ValueId.{ValueId}
use Rattle.sil_cfg.specs.declared.item.Item.TheVariants as item
use Rattle.sil_types_declarations.specs.TypeDefinitions.Declarations.{Declarations, declarations_of}
use Rattle.sil_types_declarations.specs.declared.type_definitions.kind.Kind.TheVariants as kind
use Rattle.holder_model_values.specs.RunValues.Memory.{Memory}
use Rattle.holder_model_values.specs.RunValues.Values.{Value}
use Rattle.numbered_form.specs.ValueTables.Borrows.{is_borrow}
use Rattle.sil_verifier_frames.specs.sil_verifier_trails.AcceptedTrails.inner.Defined.{makes}
use Rattle.sil_verifier_frames.specs.sil_verifier_values.inner.Known.{IsAcceptedBody, kind_at}
use Rattle.sil_verifier_frames.proofs.sil_verifier_values.Based.{lenders_own_bases}
use Rattle.sil_verifier_frames.proofs.Typed.Performs.{defines_results}
use Rattle.sil_verifier_frames.specs.holder_model.Data.{Datum, ValueOf}
use Rattle.sil_verifier_frames.specs.holder_model.Frames.{Entry, Lent, made_entry}
use Rattle.sil_verifier_runs.specs.inner.Guarded.Guards.{Lending}
use Rattle.sil_verifier_runs.specs.inner.Guarded.Kept.{ArePutRight}
use Rattle.sil_verifier_runs.specs.inner.Guarded.LoansKept.{LendOn}
use Rattle.sil_verifier_runs.proofs.Guarded.Following.{arguments_of_entry}
use Rattle.sil_verifier_runs.proofs.Guarded.Sources.{lent_not_owned, same_value, value_lent}

pub one_only : {A : Type 0} (x y : A) (k : ℕ) → slice_get (x ∷ []) k ≡ Some y → x ≡ y
one_only x y zero e = same_Some x y e
one_only x y (suc k) e = absurd (cc)

module _ (m : Module) (n : ℕ) (f : Function) (a : IsAcceptedBody m n f) (p : PointId) (call : Inst) (here : inst_at f p ≡ Some call) (result : ValueId)
    (results : call.results ≡ result ∷ [])
    (taken : (kind_at (declarations_of m) f result ≡ kind.Owned) ⊎ (kind_at (declarations_of m) f result ≡ kind.Plain)) where
  abbrev d : Declarations
  d = declarations_of m

  defined_is : item_defined f (item.Inst p) ≡ result ∷ []
  defined_is = defines_results f p call here ∙ results

  no_borrow : (v : ValueId) → is_borrow f v ≡ true → result ≡ v → ⊥
  no_borrow v borrow same = ⊎_elim
      (λ owned. let no : kind.Owned ≡ kind.Guaranteed = sym owned ∙ ap (kind_at d f) same ∙ lends in absurd (cc))
      (λ plain. let no : kind.Plain ≡ kind.Guaranteed = sym plain ∙ ap (kind_at d f) same ∙ lends in absurd (cc))
      taken
    where
      lends : kind_at d f v ≡ kind.Guaranteed
      lends = ap (λ (o : Option Facts). (known_or (λ _. o) v).kind) (lenders_own_bases m n f a v (inr borrow)).facts

  borrow_unmade : (v : ValueId) → is_borrow f v ≡ true → makes f v (item.Inst p) ≡ false
  borrow_unmade v borrow = ⊎_elim (λ made. absurd (never made)) (λ none. none) (cases_Bool (makes f v (item.Inst p)))
    where
      never : makes f v (item.Inst p) ≡ true → ⊥
      never made =
          let among : ((result.0 == v.0) || false) ≡ true = ap (λ vs. has vs v.0) (sym defined_is) ∙ made in
          ⊎_elim (λ same. no_borrow v borrow (same_value result v (eqb-true result.0 v.0 same))) (λ no. false≢true no) (or_cases (result.0 == v.0) false among)

  other_item : (item.Inst p ≡ item.Entry → ⊥)
  other_item e = cc

  -- a value that is returned
  pub returned_right : (lends lends' : Lending) (memory : Memory) (entries : List Entry) (x : Datum) (v : Value) → x ≡ ValueOf v
      → LendOn f lends lends' memory memory entries → ArePutRight d f lends lends' memory memory (item.Inst p) (x ∷ []) entries
  returned_right lends lends' memory entries x v is lend = record {
    anchors = λ u y anchor e. ⊎_elim (λ borrow. borrow_unmade u borrow) (λ argument. arguments_of_entry m n f a (item.Inst p) other_item u argument) anchor;
    lending = lend;
    made = λ k u y o defined at made named. absurd (never u y
        (one_only result u k (ap (λ vs. slice_get vs k) (sym defined_is) ∙ defined)) (one_only x y k at) made);
  }
    where
      never : (u : ValueId) (y : Datum) → result ≡ u → x ≡ y → made_entry (kind_at d f u) y ≡ Ok (Lent y) → ⊥
      never u y same it made = ⊎_elim
          (λ owned. lent_not_owned (kind_at d f u) y y made (ap (kind_at d f) (sym same) ∙ owned))
          (λ plain.
          let lent = value_lent (kind_at d f u) v y (ap (made_entry (kind_at d f u)) (sym is ∙ it) ∙ made) in
          let no : kind.Plain ≡ kind.Guaranteed = sym plain ∙ ap (kind_at d f) same ∙ lent in
          absurd (cc))
          taken
