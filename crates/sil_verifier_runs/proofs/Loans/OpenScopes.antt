-- A scope that is there behind the ends of the next item is open, so what it borrows of memory is lent.
use Rattle.std.proofs.Common.{◌≡◌, ℕ, List, ◌∷◌, Bool, true, false, not, Some, refl, sym, ap, ◌∙◌}
use Rattle.std.specs.Prelude.{option_map}
use Rattle.std.specs.List.{list_any}
use Rattle.std.proofs.lemmas.Bool.{and_parts, false≢true}
use Rattle.sil_verifier_frames.proofs.sil_verifier_trails.AcceptedMemory.InScopes.{lent_in_scopes}
use Rattle.sil_verifier_frames.specs.sil_verifier_trails.AcceptedTrails.inner.Lives.{is_open}
use Rattle.sil_verifier_frames.specs.sil_verifier_trails.AcceptedTrails.inner.Passing.{IsPassed, is_end, left_by}
use Rattle.sil_verifier_frames.specs.memory_rules_accesses.Sources.{source_at, sources_of}
use Rattle.sil_verifier_frames.specs.memory_rules_accesses.declared.source.Source.TheVariants as source
use Rattle.sil_verifier_frames.specs.sil_verifier_trails.RunTrails.inner.RunTrails.{IsRunTrail, IsTurnedTrail}
use Rattle.sil_verifier_frames.proofs.sil_verifier_trails.AcceptedPlaces.ItemStacks.{accepted_in}
use Rattle.sil_verifier_frames.proofs.sil_verifier_trails.AcceptedPlaces.LoansKept.{loans_followed}
use Rattle.sil_verifier_frames.specs.sil_verifier_trails.AcceptedPlaces.inner.Loans.{IsLentOn}
use Rattle.sil_verifier_frames.specs.sil_verifier_values.inner.Known.{IsAcceptedBody}
use Rattle.sil_verifier_frames.proofs.sil_verifier_trails.AcceptedTrails.ScopesPassed.{scopes_passed}
use Rattle.sil_verifier_frames.specs.ownership_kinds_origins.Facts.{facts_in}
use Rattle.sil_verifier_frames.specs.holder_model.Data.{Datum}
use Rattle.sil_verifier_frames.specs.holder_model.Frames.{Entry, Gone, Lent, entry_at}
use Rattle.sil_verifier_frames.specs.sil_verifier_trails.HeldEntries.inner.Tracked.{AreTrackedLeft, IsOwnScope, LendsWhile}
use Rattle.sil_cfg_items.specs.Items.{item_taken}
use Rattle.sil_ast.specs.declared.function.Function.{Function}
use Rattle.sil_ast.specs.declared.module.Module.{Module}
use Rattle.sil_ast.specs.declared.place.ValueId.{ValueId}
use Rattle.sil_cfg.specs.declared.item.Item.{Item}
use Rattle.sil_types_declarations.specs.TypeDefinitions.Declarations.{Declarations, declarations_of}
use Rattle.numbered_form.specs.ValueTables.Borrows.{is_borrow}
use Rattle.sil_verifier_frames.proofs.sil_verifier_trails.ScopedAddresses.OwnScopes.{own_scope}

off_or_not : (b : Bool) → not b ≡ true → b ≡ false
off_or_not true e = absurd (false≢true e)
off_or_not false e = refl

module _ (m : Module) (n : ℕ) (f : Function) (a : IsAcceptedBody m n f) (t : List Item) (i : Item) (run : IsRunTrail f (i ∷ t)) (turned : IsTurnedTrail f (i ∷ t))
    (left : List Entry) (tracked : AreTrackedLeft (declarations_of m) f t i left) where
  abbrev d : Declarations
  d = declarations_of m

  -- it was open, and the item doesn't end it
  pub record StaysOpen (s : ValueId) : Type 0 where
    pub open_before : is_open d f s t ≡ Some true
    pub stays : list_any (is_end (facts_in d f) s) (item_taken f i) ≡ false

  stays_open : (s : ValueId) (x : Datum) → is_borrow f s ≡ true → entry_at left s ≡ Lent x → StaysOpen s
  stays_open s x borrow lent = at (left_by (facts_in d f) s f i pass.on) refl
      (tracked.scopes s own (left_by (facts_in d f) s f i pass.on) (ap (option_map (left_by (facts_in d f) s f i)) pass.was))
    where
      own : IsOwnScope d f s
      own = own_scope m n f a s borrow

      pass : IsPassed (facts_in d f) s (is_open d f s) f t i
      pass = scopes_passed d f (accepted_in m n f a) s own.scope t i turned

      not_gone : Gone ≡ Lent x → ⊥
      not_gone e = cc

      at : (b : Bool) → left_by (facts_in d f) s f i pass.on ≡ b → LendsWhile b (entry_at left s) → StaysOpen s
      at false e gone = absurd (not_gone (sym gone ∙ lent))
      at true e there =
          let parts = and_parts pass.on (not (list_any (is_end (facts_in d f) s) (item_taken f i))) e in
          record { open_before = pass.was ∙ ap Some parts.0; stays = off_or_not (list_any (is_end (facts_in d f) s) (item_taken f i)) parts.1 }

  pub lent_on : (s address : ValueId) (x : Datum) → is_borrow f s ≡ true → entry_at left s ≡ Lent x → source_at (sources_of d f) s ≡ source.Loan address
      → IsLentOn d f t i s address
  lent_on s address x borrow lent is =
      let y = stays_open s x borrow lent in
      let there = loans_followed m n f a s address is in
      record {
        there = there;
        lent = lent_in_scopes d f (accepted_in m n f a) s address there (own_scope m n f a s borrow).scope t run.1 ∙ y.open_before;
        stays = y.stays;
      }
