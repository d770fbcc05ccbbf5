-- A deinitialiser begins with the object alone, which it owns: it was given no place.
use Rattle.std.proofs.Common.{◌≡◌, ℕ, zero, suc, List, [], ◌∷◌, ◌++◌, map, true, Option, Ok, Some, None, refl, sym, ap, ◌∙◌, subst, slice_get}
use Rattle.std.proofs.lemmas.Option.{none-some, same_Some}
use Rattle.holder_model_laws.specs.holder_model.Calling.{argument_data, given_places, lent_with, place_in, places_given, value_count}
use Rattle.holder_model_laws.specs.holder_model.Data.{Datum}
use Rattle.holder_model_laws.specs.holder_model.Frames.{Entry, Frame, LentPlace, has_any, no_entries, results_put}
use Rattle.holder_model_laws.specs.holder_model.StepParts.{new_frame}
use Rattle.holder_model_laws.specs.holder_model.States.{Finishes, Runs, Task}
use Rattle.sil_verifier_trails.specs.sil_verifier_accepted.AcceptedModules.inner.Checked.{IsVerified}
use Rattle.sil_verifier_trails.specs.sil_verifier_values.inner.Known.{IsAcceptedBody}
use Rattle.holder_model_laws.specs.holder_model.RunTyping.CallForms.{IsDeinitOf}
use Rattle.holder_model_laws.specs.holder_model.RunTyping.Forms.{OfValue, entry_forms, form_with}
use Rattle.sil_verifier_trails.proofs.sil_verifier_values.Accepted.{well_typed}
use Rattle.sil_verifier_trails.proofs.holder_model_typing.RunTypingLaws.FunctionFacts.{typed_function}
use Rattle.sil_verifier_trails.proofs.holder_model_typing.RunTypingLaws.Rows.Forms.{typed_form}
use Rattle.sil_verifier_trails.proofs.holder_model_typing.RunTypingLaws.Rows.Layers.{target-Address}
use Rattle.sil_verifier_trails.proofs.holder_model_typing.RunTypingLaws.SignatureFacts.{entry_forms_are}
use Rattle.argument_conventions.specs.Arguments.{Told, argument_type, arguments_of, handed_type}
use Rattle.argument_conventions.specs.Rows.{address_row}
use Rattle.argument_conventions.specs.declared.convention.ArgumentConvention.{ArgumentConvention}
use Rattle.argument_conventions.specs.declared.convention.ArgumentConvention.TheVariants as convention
use Rattle.sil_cfg_items.specs.Items.{item_defined}
use Rattle.numbered_form.specs.Names.{Name}
use Rattle.holder_model_laws.specs.ownership_kinds_chains.declared.ownership_chains.facts.Facts.{Facts}
use Rattle.numbered_form.proofs.PointChecks.Among.{Among}
use Rattle.holder_model_values.specs.RunValues.Memory.{Memory}
use Rattle.holder_model_values.specs.RunValues.Shapes.{Reference, Shape}
use Rattle.sil_ast.specs.declared.function.Function.{Function}
use Rattle.sil_ast.specs.declared.module.Module.{Module}
use Rattle.sil_ast.specs.declared.place.FuncId.{FuncId}
use Rattle.sil_ast.specs.declared.place.ObjectId.{ObjectId}
use Rattle.sil_ast.specs.declared.place.ValueId.{ValueId}
use Rattle.sil_ast.specs.declared.type_name.TypeName.{TypeName}
use Rattle.sil_ast.specs.declared.type_name.TypeName.TheVariants as type
use Rattle.sil_cfg.specs.declared.item.Item.TheVariants as item
use Rattle.sil_types_declarations.specs.TypeDefinitions.Declarations.{Declarations, declarations_of}
use Rattle.sil_verifier_frames.proofs.Typed.GoesOn.{accepted_body}
use Rattle.sil_verifier_frames.specs.inner.Placed.PlaceStates.{TasksPlaced}
use Rattle.sil_verifier_frames.specs.inner.Placed.TrailLaws.{TrailLaws}
use Rattle.sil_verifier_frames.proofs.Placed.CalleesBegin.{others_gone}
use Rattle.sil_verifier_frames.proofs.Placed.Entering.{begins_so, told_of}
use Rattle.sil_verifier_frames.proofs.Placed.Given.{ArePairsApart}

-- an argument of the form of a value isn't handed over by its address
no_row : (d : Declarations) (c : ArgumentConvention) (t : TypeName) (s : Shape) → typed_form d (handed_type c t) ≡ OfValue s → address_row c ≡ None
no_row d convention.Plain t s e = refl
no_row d convention.Owned t s e = refl
no_row d convention.Guaranteed t s e = refl
no_row d (convention.Address k) t s e =
    let place : form_with d (type.Address t) (Some t) ≡ OfValue s = sym (ap (form_with d (type.Address t)) (target-Address t)) ∙ e in
    absurd (cc)

one_plain : (d : Declarations) (told : List Told) (s : Shape) → map (typed_form d) (map argument_type told) ≡ OfValue s ∷ []
    → (k : ℕ) (a : Told) → slice_get told k ≡ Some a → address_row a.convention ≡ None
one_plain d [] s e k a there = absurd (none-some a there)
one_plain d (b ∷ c ∷ told) s e k a there = absurd (cc)
one_plain d (b ∷ []) s e (suc k) a there = absurd (none-some a there)
one_plain d (b ∷ []) s e zero a there =
    let first : typed_form d (argument_type b) ≡ OfValue s = cc in
    ap (λ (x : Told). address_row x.convention) (sym (same_Some b a there)) ∙ no_row d b.convention b.ty s first

none_given : (told : List Told) (xs : List (Option Datum)) → ((k : ℕ) (a : Told) → slice_get told k ≡ Some a → address_row a.convention ≡ None) → given_places told xs ≡ []
none_given [] xs plain = refl
none_given (a ∷ told) [] plain = refl
none_given (a ∷ told) (x ∷ xs) plain =
    ap (λ r. lent_with r (place_in x) ++ given_places told xs) (plain 0 a refl) ∙ none_given told xs (λ k b there. plain (suc k) b there)

module _ (laws : TrailLaws) (m : Module) (verified : IsVerified m) (class : Name) (g : FuncId) (deinit : IsDeinitOf m class g) (f : Function) (there : slice_get m.functions g.0 ≡ Some f) where
  same : deinit.body ≡ f
  same = same_Some deinit.body f (sym deinit.there ∙ there)

  bodied : has_any f.blocks ≡ true
  bodied = subst (λ b. has_any b.blocks ≡ true) same deinit.bodied

  accepted : IsAcceptedBody m g.0 f
  accepted = accepted_body m verified g f there bodied

  plain : (k : ℕ) (a : Told) → slice_get (arguments_of f.signature) k ≡ Some a → address_row a.convention ≡ None
  plain = one_plain (declarations_of m) (arguments_of f.signature) (Reference class)
      (sym (entry_forms_are m f (typed_function m (well_typed m verified) g.0 f there) bodied) ∙ subst (λ b. entry_forms (declarations_of m) b ≡ OfValue (Reference class) ∷ []) same deinit.takes)

  nothing_given : (entries : List Entry) → places_given f entries ≡ []
  nothing_given entries = none_given (arguments_of f.signature) (argument_data entries (item_defined f item.Entry)) plain

  never_given : (entries : List Entry) (l : LentPlace) → Among l (places_given f entries) → ⊥
  never_given entries l c = subst (Among l) (nothing_given entries) c

  pub deinit_begins : (memory : Memory) (tasks : List (Task Frame)) (gs : List FuncId) (o : ObjectId) → TasksPlaced m memory tasks
      → (facts : ValueId → Option Facts) (xs : List Datum) (entries : List Entry) → results_put facts (item_defined f item.Entry) xs (no_entries (value_count f)) ≡ Ok entries
      → TasksPlaced m memory (Runs (new_frame g entries) ∷ Finishes gs o ∷ tasks)
  deinit_begins memory tasks gs o h facts xs entries put = (
    record {
      f = f;
      is = there;
      holds = begins_so laws m g.0 f accepted memory g entries (Finishes gs o ∷ tasks) (record {
        named = λ v row trivial src.
            let told = told_of laws m g.0 f accepted v row trivial src in
            absurd (none-some row (sym (plain told.number told.told told.told_is) ∙ told.row_is));
        others = others_gone laws m g.0 f accepted facts entries xs put;
        pairs = subst ArePairsApart (sym (nothing_given entries)) tt;
        each = λ l c. absurd (never_given entries l c);
        cells = λ l c n has. absurd (never_given entries l c);
        free = λ l c own n has. absurd (never_given entries l c);
      });
      none_lent = refl;
    },
    (tt, tt, h),
  )
