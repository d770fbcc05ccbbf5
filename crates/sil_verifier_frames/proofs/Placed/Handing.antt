-- The places that a call lends, by its operands, and that the callee is given, by its arguments.
use Rattle.std.proofs.Common.{◌≡◌, ◌++◌, List, [], ◌∷◌, map, cond, Option, Some, None, refl, sym, ap, ◌∙◌, subst}
use Rattle.std.specs.Prelude.{flat_map, option_map}
use Rattle.std.specs.Option.{option_or, option_to_list}
use Rattle.holder_model_laws.specs.holder_model.Calling.{as_argument, given_places, lent_places, lent_with}
use Rattle.holder_model_laws.specs.holder_model.Data.{AddressOf, Datum, FunctionOf, ValueOf, as_place}
use Rattle.holder_model_laws.specs.holder_model.Frames.{Entry}
use Rattle.holder_model_laws.specs.memory_rules_accesses.Operations.{is_address_role, operated, operated_at}
use Rattle.holder_model_laws.specs.memory_rules_accesses.declared.access.Operation.TheVariants.{Handed}
use Rattle.holder_model_laws.specs.memory_rules_accesses.declared.columns.AccessKind.TheVariants as access
use Rattle.argument_conventions.specs.Arguments.{Told}
use Rattle.argument_conventions.specs.declared.row.AddressRow.{AddressRow}
use Rattle.sil_cfg_items.specs.declared.taken.Taken.{Taken}
use Rattle.sil_ast.specs.declared.inst.Qualifier.{Qualifier}
use Rattle.sil_verifier_frames.specs.inner.Placed.PlaceStates.{AreLentBy, as_given}
pub use Rattle.sil_verifier_frames.specs.inner.Placed.TakenPlaces.{AreAlike, AreHandedAs, IsHandedAs}
use Rattle.sil_verifier_frames.proofs.Placed.RowsAt.{nothing_at}

-- ---- the caller

pub lent_each : (entries : List Entry) (q : Qualifier) (ts : List Taken) (xs : List Datum) → AreHandedAs entries ts xs
    → AreLentBy entries (flat_map (operated_at access.Passes q) ts) (lent_places ts xs)
lent_each entries q [] xs h = tt
lent_each entries q (t ∷ ts) [] h = absurd h
lent_each entries q (t ∷ ts) (x ∷ xs) h = at t.handed refl (lent_each entries q ts xs h.1)
  where
    at : (r : Option AddressRow) → t.handed ≡ r → AreLentBy entries (flat_map (operated_at access.Passes q) ts) (lent_places ts xs)
        → AreLentBy entries (operated_at access.Passes q t ++ flat_map (operated_at access.Passes q) ts) (lent_with t.handed (as_place x) ++ lent_places ts xs)
    at None e more = subst (λ os. AreLentBy entries (os ++ flat_map (operated_at access.Passes q) ts) (lent_with t.handed (as_place x) ++ lent_places ts xs))
        (sym (nothing_at access.Passes q t e refl))
        (subst (λ r. AreLentBy entries (flat_map (operated_at access.Passes q) ts) (lent_with r (as_place x) ++ lent_places ts xs)) (sym e) more)
    at (Some row) e more =
        let p = h.0 row e in
        subst (λ r. AreLentBy entries (option_to_list (option_map (operated t.value) (option_or (option_map Handed r) (cond (is_address_role t.role) None None)))
        ++ flat_map (operated_at access.Passes q) ts) (lent_with r (as_place x) ++ lent_places ts xs)) (sym e)
        (subst (λ y. AreLentBy entries (operated t.value (Handed row) ∷ flat_map (operated_at access.Passes q) ts) (lent_with (Some row) (as_place y) ++ lent_places ts xs)) (sym p.1)
        (refl, p.2, more))

-- ---- the callee

map_both : {A B : Type 0} (g : A → B) (xs ys : List A) → map g (xs ++ ys) ≡ map g xs ++ map g ys
map_both g [] ys = refl
map_both g (x ∷ xs) ys = ap (λ zs. g x ∷ zs) (map_both g xs ys)

one_alike : (r : Option AddressRow) (x : Datum) → lent_with r (as_place (as_argument x)) ≡ map as_given (lent_with r (as_place x))
one_alike None x = refl
one_alike (Some row) (ValueOf v) = refl
one_alike (Some row) (AddressOf p) = refl
one_alike (Some row) (FunctionOf g) = refl

pub given_alike : (told : List Told) (ts : List Taken) (xs : List Datum) → AreAlike told ts
    → given_places told (map (λ x. Some (as_argument x)) xs) ≡ map as_given (lent_places ts xs)
given_alike [] [] xs h = refl
given_alike [] (t ∷ ts) xs h = absurd h
given_alike (a ∷ told) [] xs h = absurd h
given_alike (a ∷ told) (t ∷ ts) [] h = refl
given_alike (a ∷ told) (t ∷ ts) (x ∷ xs) h =
    ap (λ ys. ys ++ given_places told (map (λ x. Some (as_argument x)) xs)) (ap (λ r. lent_with r (as_place (as_argument x))) (sym h.0) ∙ one_alike t.handed x)
    ∙ ap (λ ys. map as_given (lent_with t.handed (as_place x)) ++ ys) (given_alike told ts xs h.1)
    ∙ sym (map_both as_given (lent_with t.handed (as_place x)) (lent_places ts xs))
