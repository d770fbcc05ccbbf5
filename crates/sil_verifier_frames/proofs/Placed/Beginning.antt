-- A run begins with all places as they should be: there are none.
use Rattle.std.proofs.Common.{◌≡◌, ℕ, zero, suc, List, [], ◌∷◌, Bool, true, false, not, Some, refl, sym, ap, ◌∙◌, subst, slice_get, replicate}
use Rattle.std.specs.Prelude.{unwrap_or}
use Rattle.std.proofs.lemmas.Bool.{and_parts, false≢true}
use Rattle.std.proofs.lemmas.Option.{none-some}
use Rattle.holder_model_laws.specs.holder_model.Calling.{argument_data, given_places, places_given, value_count}
use Rattle.holder_model_laws.specs.holder_model.Frames.{Entry, Gone, LentPlace, has_any, no_entries}
use Rattle.holder_model_laws.specs.holder_model.Outcomes.{begins, may_start}
use Rattle.sil_verifier_trails.specs.sil_verifier_values.inner.Known.{IsAcceptedBody}
use Rattle.argument_conventions.specs.Arguments.{arguments_of}
use Rattle.sil_cfg_items.specs.Items.{item_defined}
use Rattle.numbered_form.proofs.PointChecks.Among.{Among}
use Rattle.sil_ast.specs.declared.function.Function.{Function}
use Rattle.sil_ast.specs.declared.module.Module.{Module}
use Rattle.sil_ast.specs.declared.place.FuncId.{FuncId}
use Rattle.sil_cfg.specs.declared.item.Item.TheVariants as item
use Rattle.sil_verifier_frames.specs.inner.Placed.PlaceStates.{AreSlotsRight}
use Rattle.sil_verifier_frames.specs.inner.Placed.TrailLaws.{TrailLaws}
use Rattle.sil_verifier_frames.proofs.Placed.Entering.{begins_so, told_of}
use Rattle.sil_verifier_frames.proofs.Placed.Given.{ArePairsApart}

none_of : {A : Type 0} (xs : List A) → has_any xs ≡ false → xs ≡ []
none_of [] e = refl
none_of (x ∷ xs) e = absurd (false≢true (sym e))

off : (b : Bool) → not b ≡ true → b ≡ false
off true e = absurd (false≢true e)
off false e = refl

-- no entry is there
pub all_gone : (n k : ℕ) → unwrap_or (slice_get (replicate n Gone) k) Gone ≡ Gone
all_gone zero k = refl
all_gone (suc n) zero = refl
all_gone (suc n) (suc k) = all_gone n k

module _ (laws : TrailLaws) (m : Module) (e : FuncId) (f : Function) (body : IsAcceptedBody m e.0 f) (there : slice_get m.functions e.0 ≡ Some f) (starts : may_start f ≡ true) where
  none_told : arguments_of f.signature ≡ []
  none_told = none_of (arguments_of f.signature) (off (has_any (arguments_of f.signature)) (and_parts (has_any f.blocks) (not (has_any (arguments_of f.signature))) starts).1)

  none_given : (entries : List Entry) → places_given f entries ≡ []
  none_given entries = ap (λ told. given_places told (argument_data entries (item_defined f item.Entry))) none_told

  never_given : (entries : List Entry) (l : LentPlace) → Among l (places_given f entries) → ⊥
  never_given entries l c = subst (Among l) (none_given entries) c

  pub begins_placed : AreSlotsRight m (begins e f)
  begins_placed = (
    record {
      f = f;
      is = there;
      holds = begins_so laws m e.0 f body (record { stack = []; objects = [] }) e (no_entries (value_count f)) [] (record {
        named = λ v row trivial is.
            let told = told_of laws m e.0 f body v row trivial is in
            absurd (none-some told.told (sym (ap (λ xs. slice_get xs told.number) none_told) ∙ told.told_is));
        others = λ v none. all_gone (value_count f) v.0;
        pairs = subst ArePairsApart (sym (none_given (no_entries (value_count f)))) tt;
        each = λ l c. absurd (never_given (no_entries (value_count f)) l c);
        cells = λ l c n has. absurd (never_given (no_entries (value_count f)) l c);
        free = λ l c own n has. absurd (never_given (no_entries (value_count f)) l c);
      });
      none_lent = refl;
    },
    tt,
  )
