-- The strong numbers of a heap, and those that are stored; and what leaves these.
use Rattle.std.proofs.Common.{◌≡◌, ◌∙◌, ℕ, zero, suc, List, [], ◌∷◌, Option, Some, None, refl, sym, ap}
use Rattle.std.specs.Prelude.{set, slice_get, unwrap_or}
use Rattle.std.proofs.lemmas.Option.{none-some, same_Some}
use Rattle.count_heap.specs.HeapModel.HeapViews.{HeapObject, HeapView, object_in}
use Rattle.count_machine_model.specs.holder_model.Outcomes.{Numbers}
use Rattle.count_machine_model.specs.holder_model.LoweredRun.Stored.{changed, each_changed, less_unowned, less_weak, more_unowned, more_weak, named, no_numbers, numbers_of}
use Rattle.count_machine_model.specs.holder_model.LoweredRun.Stored.{unnamed, unowned_named, weakly_named}
use Rattle.holder_model_values.specs.RunValues.Cells.{Cell}
use Rattle.holder_model_values.specs.RunValues.Memory.{Object}
use Rattle.sil_ast.specs.declared.module.Module.{Module}
use Rattle.sil_ast.specs.declared.place.ObjectId.{ObjectId}
use Rattle.holder_model_values.specs.ValueParts.inner.Suits.{ClassTest}
use Rattle.count_machine_laws.proofs.NumbersPut.{Found, found, missing, there}
use Rattle.count_machine_laws.proofs.Objects.{ObjectAgrees, ObjectsAgree, freed, kept}

-- each object that isn't freed has the strong number that is stored
abbrev pub StrongsAre : HeapView → List Numbers → Type 0
StrongsAre h numbers = (o : ObjectId) (x : HeapObject) → object_in h o ≡ Some x → x.strong ≡ (numbers_of numbers o).strong

pub strongs_are : (m : Module) (test : ClassTest) (objects : List Object) (numbers : List Numbers) (h : HeapView) → ObjectsAgree m test objects numbers h.objects → StrongsAre h numbers
strongs_are m test objects numbers h a o x is = at (found m test objects numbers h.objects a o.0)
  where
    by : (y : Object) (n : Numbers) (z : Option HeapObject) → ObjectAgrees m test y n z → z ≡ Some x → x.strong ≡ n.strong
    by _ _ _ (freed y n dead cells unowned weak) e = absurd (none-some x e)
    by _ _ _ (kept y n z k) e = ap (λ u. u.strong) (sym (same_Some z x e)) ∙ k.strong

    at : Found m test objects numbers h.objects a o.0 → x.strong ≡ (numbers_of numbers o).strong
    at (missing ex en eh) = absurd (none-some x (sym (ap (λ u. unwrap_or u None) eh) ∙ is))
    at (there y n z ex en eh agree) =
        by y n z agree (sym (ap (λ u. unwrap_or u None) eh) ∙ is) ∙ sym (ap (λ u. (unwrap_or u no_numbers).strong) en)

-- the same strong numbers are stored
abbrev pub SameStrongs : List Numbers → List Numbers → Type 0
SameStrongs numbers others = (o : ObjectId) → (numbers_of numbers o).strong ≡ (numbers_of others o).strong

pub strongs_still : (h : HeapView) (numbers others : List Numbers) → SameStrongs others numbers → StrongsAre h numbers → StrongsAre h others
strongs_still h numbers others same are o x is = are o x is ∙ sym (same o)

strong_put : (ns : List Numbers) (k j : ℕ) (n : Numbers) → n.strong ≡ (unwrap_or (slice_get ns k) no_numbers).strong
    → (unwrap_or (slice_get (set ns k n) j) no_numbers).strong ≡ (unwrap_or (slice_get ns j) no_numbers).strong
strong_put [] k j n e = refl
strong_put (x ∷ ns) zero zero n e = e
strong_put (x ∷ ns) zero (suc j) n e = refl
strong_put (x ∷ ns) (suc k) zero n e = refl
strong_put (x ∷ ns) (suc k) (suc j) n e = strong_put ns k j n e

each_same : (f : Numbers → Numbers) → ((n : Numbers) → (f n).strong ≡ n.strong) → (os : List ObjectId) (ns : List Numbers) → SameStrongs (each_changed f os ns) ns
each_same f leaves [] ns o = refl
each_same f leaves (p ∷ os) ns o = each_same f leaves os (changed f ns p) o ∙ strong_put ns p.0 o.0 (f (numbers_of ns p)) (leaves (numbers_of ns p))

-- storage that names objects, or names them no longer, leaves them
pub named_same : (cells : List Cell) (ns : List Numbers) → SameStrongs (named cells ns) ns
named_same cells ns o =
    each_same more_weak (λ n. refl) (weakly_named cells) (each_changed more_unowned (unowned_named cells) ns) o
    ∙ each_same more_unowned (λ n. refl) (unowned_named cells) ns o

pub unnamed_same : (cells : List Cell) (ns : List Numbers) → SameStrongs (unnamed cells ns) ns
unnamed_same cells ns o =
    each_same less_weak (λ n. refl) (weakly_named cells) (each_changed less_unowned (unowned_named cells) ns) o
    ∙ each_same less_unowned (λ n. refl) (unowned_named cells) ns o
