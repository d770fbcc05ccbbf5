-- A frame that was entered: its arguments have the entries that they were given.
use Rattle.std.proofs.Common.{◌≡◌, ℕ, List, [], ◌∷◌, sym, ap, ◌∙◌, true, false, ◌||◌, Some, Ok}
use Rattle.std.specs.Prelude.{slice_get}
use Rattle.std.proofs.lemmas.Bool.{and_parts, false≢true}
use Rattle.std.proofs.lemmas.Option.{same_Some}
use Rattle.sil_cfg_items.specs.Items.{item_defined}
use Rattle.sil_verifier_frames.specs.ownership_kinds_chains.OwnershipChains.Facts.{is_guaranteed, is_owned}
use Rattle.sil_ast.specs.declared.function.Function.{Function}
use Rattle.sil_ast.specs.declared.module.Module.{Module}
use Rattle.sil_ast.specs.declared.place.ValueId.{ValueId}
use Rattle.sil_cfg.specs.declared.item.Item.TheVariants as item
use Rattle.sil_types_declarations.specs.TypeDefinitions.Declarations.{Declarations, declarations_of}
use Rattle.sil_types_declarations.specs.declared.type_definitions.kind.Kind.TheVariants as kind
use Rattle.numbered_form.specs.ValueTables.Borrows.{is_borrow}
use Rattle.sil_verifier_frames.specs.sil_verifier_trails.AcceptedTrails.inner.Defined.{makes}
use Rattle.sil_verifier_frames.specs.sil_verifier_trails.AcceptedTrails.inner.Lives.{IsOwnedIn}
use Rattle.sil_verifier_frames.specs.ownership_kinds_origins.Facts.{facts_in}
use Rattle.sil_verifier_frames.specs.sil_verifier_trails.HeldEntries.inner.Tracked.{IsOwnScope}
use Rattle.sil_verifier_frames.specs.sil_verifier_values.inner.Known.{IsAcceptedBody, kind_at}
use Rattle.sil_verifier_frames.proofs.sil_verifier_values.Made.{distinct}
use Rattle.sil_verifier_frames.specs.holder_model.Calling.{value_count}
use Rattle.sil_verifier_frames.specs.holder_model.Data.{Datum}
use Rattle.sil_verifier_frames.specs.holder_model.Frames.{Entry, entry_at, made_entry, no_entries, results_put}
use Rattle.sil_verifier_runs.specs.inner.Guarded.Following.{GoAlong}
use Rattle.sil_verifier_runs.specs.inner.Guarded.Guards.{IsThere}
use Rattle.sil_verifier_runs.proofs.Guarded.Entries.{results_made}
use Rattle.sil_verifier_runs.proofs.Guarded.Following.{argument_made}
use Rattle.sil_verifier_runs.proofs.Guarded.LentArguments.{is_argument}

module _ (m : Module) (n : ℕ) (f : Function) (a : IsAcceptedBody m n f) (args : List Datum) (entries : List Entry)
    (along : GoAlong (declarations_of m) f (item.Entry ∷ []) entries)
    (put : results_put (facts_in (declarations_of m) f) (item_defined f item.Entry) args (no_entries (value_count f)) ≡ Ok entries) where
  abbrev d : Declarations
  d = declarations_of m

  module _ (k : ℕ) (v : ValueId) (x : Datum) (defined : slice_get (item_defined f item.Entry) k ≡ Some v) (at : slice_get args k ≡ Some x)
      (plain : kind_at d f v ≡ kind.Plain) where
    made : makes f v item.Entry ≡ true
    made = argument_made m n f a v (is_argument m n f a k v defined)

    there : IsThere (entry_at entries v)
    there = along.others v
        (λ (owned : IsOwnedIn d f v). false≢true (sym (ap is_owned plain) ∙ owned.owned))
        (λ (own : IsOwnScope d f v). false≢true (sym (ap is_guaranteed plain) ∙ (and_parts (is_guaranteed (kind_at d f v)) (is_borrow f v) own.scope.scope).0))
        (ap (λ b. b || false) made)

    -- a Plain argument that was made so
    pub argument_entry : (e : Entry) → made_entry (kind_at d f v) x ≡ Ok e → entry_at entries v ≡ e
    argument_entry e is =
        let r = results_made (facts_in d f) (item_defined f item.Entry) args (no_entries (value_count f)) entries put v made there in
        let level : r.n ≡ k = distinct m n f a item.Entry r.n k v r.value_is defined in
        let same : r.datum ≡ x = same_Some r.datum x (sym r.datum_is ∙ ap (slice_get args) level ∙ at) in
        let both : Ok (entry_at entries v) ≡ Ok e = sym r.made ∙ ap (made_entry (kind_at d f v)) same ∙ is in
        cc
