-- Measures of types go by what is known of the names in them: seen exactly, and just past the limits.
use Rattle.std.proofs.Common.{◌≡◌, ℕ, ◌+◌, List, [], ◌∷◌, map, length, Contains, refl, sym, ap, ◌∙◌, subst, arith}
use Rattle.std.specs.List.{flat_map}
use Rattle.std.specs.Prelude.{min, true, false}
use Rattle.std.proofs.lemmas.List.Elements.{Contains-append_left, Contains-append_right}
use Rattle.sil_ast.specs.declared.decl.Decl.{Decl}
use Rattle.sil_ast.specs.declared.decl.Decl.TheVariants as decl
use Rattle.sil_ast.specs.declared.type_name.TypeName.{TypeName, TypeName-F, fold-roll-TypeName, ind-TypeName, roll-TypeName, map-TypeName, out-TypeName, fold_out-TypeName}
use Rattle.sil_ast.specs.declared.type_name.TypeName.TheVariants.{Int, Named, Optional, Tuple, Weak, Unowned, Address, rolls-Int, rolls-Named}
use Rattle.sil_ast.specs.declared.type_name.TypeName.TheVariants.{rolls-Optional, rolls-Tuple, rolls-Weak, rolls-Unowned, rolls-Address}
use Rattle.sil_types_declarations.specs.numbered_form.Names.{Name}
use Rattle.sil_types_declarations.specs.TypeDefinitions.Contained.{names_in, names_over, held_names, held_types, itself}
use Rattle.sil_types_declarations.specs.TypeDefinitions.Measures.{measure_with, measure_over, measure_decl, of_members, of_payloads, of_storage, measured}
use Rattle.sil_types_declarations.specs.declared.type_definitions.measure.Measure.{Measure}
use Rattle.sil_types_declarations.specs.TypeDefinitions.Mentions.{together, target_of, target_at}
use Rattle.sil_types_items.specs.TypeMeasures.inner.Gathered.{capped, as_members, as_payloads}
use Rattle.sil_types_items.specs.declared.type_measures.gathered.TheConstants.{MOST_DEPTH}
use Rattle.sil_types_items.proofs.TypeMeasures.Gathering.{gathered_same, members_capped, payloads_capped, storage_capped}

-- the names of a type, by its form
pub names-Int : (width : ℕ) → names_in (Int width) ≡ []
names-Int width = ap names_in (sym (rolls-Int width)) ∙ fold-roll-TypeName (List Name) names_over (TypeName-F.Int width)

names-Named : (n : Name) → names_in (Named n) ≡ n ∷ []
names-Named n = ap names_in (sym (rolls-Named n)) ∙ fold-roll-TypeName (List Name) names_over (TypeName-F.Named n)

names-Optional : (t : TypeName) → names_in (Optional t) ≡ names_in t
names-Optional t = ap names_in (sym (rolls-Optional t)) ∙ fold-roll-TypeName (List Name) names_over (TypeName-F.Optional t)

pub names-Tuple : (ts : List TypeName) → names_in (Tuple ts) ≡ flat_map itself (map names_in ts)
names-Tuple ts = ap names_in (sym (rolls-Tuple ts)) ∙ fold-roll-TypeName (List Name) names_over (TypeName-F.Tuple ts)

names-Weak : (t : TypeName) → names_in (Weak t) ≡ names_in t
names-Weak t = ap names_in (sym (rolls-Weak t)) ∙ fold-roll-TypeName (List Name) names_over (TypeName-F.Weak t)

names-Unowned : (t : TypeName) → names_in (Unowned t) ≡ names_in t
names-Unowned t = ap names_in (sym (rolls-Unowned t)) ∙ fold-roll-TypeName (List Name) names_over (TypeName-F.Unowned t)

names-Address : (t : TypeName) → names_in (Address t) ≡ names_in t
names-Address t = ap names_in (sym (rolls-Address t)) ∙ fold-roll-TypeName (List Name) names_over (TypeName-F.Address t)

-- the measure of a type, by its form
module _ (known : Name → Measure) where
  pub measure-Int : (width : ℕ) → measure_with known (Int width) ≡ measured true 1 1
  measure-Int width = ap (measure_with known) (sym (rolls-Int width)) ∙ fold-roll-TypeName Measure (measure_over known) (TypeName-F.Int width)

  pub measure-Named : (n : Name) → measure_with known (Named n) ≡ known n
  measure-Named n = ap (measure_with known) (sym (rolls-Named n)) ∙ fold-roll-TypeName Measure (measure_over known) (TypeName-F.Named n)

  pub measure-Optional : (t : TypeName) → measure_with known (Optional t) ≡ of_payloads (measure_with known t ∷ [])
  measure-Optional t = ap (measure_with known) (sym (rolls-Optional t)) ∙ fold-roll-TypeName Measure (measure_over known) (TypeName-F.Optional t)

  pub measure-Tuple : (ts : List TypeName) → measure_with known (Tuple ts) ≡ of_members (map (measure_with known) ts)
  measure-Tuple ts = ap (measure_with known) (sym (rolls-Tuple ts)) ∙ fold-roll-TypeName Measure (measure_over known) (TypeName-F.Tuple ts)

  pub measure-Weak : (t : TypeName) → measure_with known (Weak t) ≡ of_storage (measure_with known t)
  measure-Weak t = ap (measure_with known) (sym (rolls-Weak t)) ∙ fold-roll-TypeName Measure (measure_over known) (TypeName-F.Weak t)

  pub measure-Unowned : (t : TypeName) → measure_with known (Unowned t) ≡ of_storage (measure_with known t)
  measure-Unowned t = ap (measure_with known) (sym (rolls-Unowned t)) ∙ fold-roll-TypeName Measure (measure_over known) (TypeName-F.Unowned t)

  pub measure-Address : (t : TypeName) → measure_with known (Address t) ≡ measure_with known t
  measure-Address t = ap (measure_with known) (sym (rolls-Address t)) ∙ fold-roll-TypeName Measure (measure_over known) (TypeName-F.Address t)

-- a way to see measures by which those of wholes go by those of their parts
pub record GoesByParts (seen : Measure → Measure) : Type 0 where
  pub members : (ms ns : List Measure) → map seen ms ≡ map seen ns → seen (of_members ms) ≡ seen (of_members ns)
  pub payloads : (ms ns : List Measure) → map seen ms ≡ map seen ns → seen (of_payloads ms) ≡ seen (of_payloads ns)
  pub storage : (m n : Measure) → seen m ≡ seen n → seen (of_storage m) ≡ seen (of_storage n)

pub past_limits : GoesByParts capped
past_limits = record {
  members = λ ms ns e. sym (members_capped ms) ∙ ap as_members (gathered_same ms ns e) ∙ members_capped ns;
  payloads = λ ms ns e. sym (payloads_capped ms) ∙ ap as_payloads (gathered_same ms ns e) ∙ payloads_capped ns;
  storage = λ m n e. sym (storage_capped m) ∙ ap (λ (c : Measure). measured false 1 (min (c.depth + 1) MOST_DEPTH)) e ∙ storage_capped n;
}

abbrev pub itself_seen : Measure → Measure
itself_seen m = m

all_seen : (ms : List Measure) → map itself_seen ms ≡ ms
all_seen [] = refl
all_seen (m ∷ ms) = ap (λ rest. m ∷ rest) (all_seen ms)

pub exactly : GoesByParts itself_seen
exactly = record {
  members = λ ms ns e. ap of_members (sym (all_seen ms) ∙ e ∙ all_seen ns);
  payloads = λ ms ns e. ap of_payloads (sym (all_seen ms) ∙ e ∙ all_seen ns);
  storage = λ m n e. ap of_storage e;
}

module _ (seen : Measure → Measure) (parts : GoesByParts seen) (a b : Name → Measure) where
  -- both know the same of these names
  abbrev Agree : List Name → Type 0
  Agree names = (n : Name) → Contains names n → seen (a n) ≡ seen (b n)

  abbrev AgreeOn : TypeName → Type 0
  AgreeOn t = Agree (names_in t) → seen (measure_with a t) ≡ seen (measure_with b t)

  on_names : (t u : TypeName) → names_in u ≡ names_in t → AgreeOn t → Agree (names_in u) → seen (measure_with a t) ≡ seen (measure_with b t)
  on_names t u e h agree = h (subst Agree e agree)

  on-Int : (width : ℕ) → AgreeOn (Int width)
  on-Int width agree = ap seen (measure-Int a width) ∙ sym (ap seen (measure-Int b width))

  on-Named : (n : Name) → AgreeOn (Named n)
  on-Named n agree = ap seen (measure-Named a n) ∙ agree n (subst (λ names. Contains names n) (sym (names-Named n)) (0, omega arith, refl)) ∙ sym (ap seen (measure-Named b n))

  on-Optional : (t : TypeName) → AgreeOn t → AgreeOn (Optional t)
  on-Optional t h agree =
      ap seen (measure-Optional a t)
      ∙ parts.payloads (measure_with a t ∷ []) (measure_with b t ∷ []) (ap (λ m. m ∷ []) (on_names t (Optional t) (names-Optional t) h agree))
      ∙ sym (ap seen (measure-Optional b t))

  on-Weak : (t : TypeName) → AgreeOn t → AgreeOn (Weak t)
  on-Weak t h agree = ap seen (measure-Weak a t) ∙ parts.storage (measure_with a t) (measure_with b t) (on_names t (Weak t) (names-Weak t) h agree) ∙ sym (ap seen (measure-Weak b t))

  on-Unowned : (t : TypeName) → AgreeOn t → AgreeOn (Unowned t)
  on-Unowned t h agree = ap seen (measure-Unowned a t) ∙ parts.storage (measure_with a t) (measure_with b t) (on_names t (Unowned t) (names-Unowned t) h agree) ∙ sym (ap seen (measure-Unowned b t))

  on-Address : (t : TypeName) → AgreeOn t → AgreeOn (Address t)
  on-Address t h agree = ap seen (measure-Address a t) ∙ on_names t (Address t) (names-Address t) h agree ∙ sym (ap seen (measure-Address b t))

  module _ {X : Type 0} (type_of : X → TypeName) (agrees : (x : X) → AgreeOn (type_of x)) where
    on_all : (xs : List X) → Agree (flat_map itself (map names_in (map type_of xs))) → map seen (map (measure_with a) (map type_of xs)) ≡ map seen (map (measure_with b) (map type_of xs))
    on_all [] agree = refl
    on_all (x ∷ xs) agree =
        let behind = flat_map itself (map names_in (map type_of xs)) in
        let here = agrees x (λ n c. agree n (Contains-append_left (names_in (type_of x)) behind n c)) in
        let rest = on_all xs (λ n c. agree n (Contains-append_right (names_in (type_of x)) behind n c)) in
        ap (λ m. m ∷ map seen (map (measure_with a) (map type_of xs))) here ∙ ap (λ ms. seen (measure_with b (type_of x)) ∷ ms) rest

    on-Tuple : (xs : List X) → AgreeOn (Tuple (map type_of xs))
    on-Tuple xs agree =
        ap seen (measure-Tuple a (map type_of xs))
        ∙ parts.members (map (measure_with a) (map type_of xs)) (map (measure_with b) (map type_of xs)) (on_all xs (subst Agree (names-Tuple (map type_of xs)) agree))
        ∙ sym (ap seen (measure-Tuple b (map type_of xs)))

    on_layer : (y : TypeName-F X) → AgreeOn (roll-TypeName (map-TypeName X TypeName type_of y))
    on_layer (TypeName-F.Int width) = subst AgreeOn (sym (rolls-Int width)) (on-Int width)
    on_layer (TypeName-F.Named n) = subst AgreeOn (sym (rolls-Named n)) (on-Named n)
    on_layer (TypeName-F.Optional x) = subst AgreeOn (sym (rolls-Optional (type_of x))) (on-Optional (type_of x) (agrees x))
    on_layer (TypeName-F.Tuple xs) = subst AgreeOn (sym (rolls-Tuple (map type_of xs))) (on-Tuple xs)
    on_layer (TypeName-F.Weak x) = subst AgreeOn (sym (rolls-Weak (type_of x))) (on-Weak (type_of x) (agrees x))
    on_layer (TypeName-F.Unowned x) = subst AgreeOn (sym (rolls-Unowned (type_of x))) (on-Unowned (type_of x) (agrees x))
    on_layer (TypeName-F.Address x) = subst AgreeOn (sym (rolls-Address (type_of x))) (on-Address (type_of x) (agrees x))

  -- of a type
  pub type_agrees : (t : TypeName) → AgreeOn t
  type_agrees = ind-TypeName AgreeOn (λ x y is. subst (λ z. AgreeOn (roll-TypeName z)) is (on_layer (λ e. e.0) (λ e. e.1) y))

  all_agree : (ts : List TypeName) → Agree (flat_map names_in ts) → map seen (map (measure_with a) ts) ≡ map seen (map (measure_with b) ts)
  all_agree [] agree = refl
  all_agree (t ∷ ts) agree =
      let here = type_agrees t (λ n c. agree n (Contains-append_left (names_in t) (flat_map names_in ts) n c)) in
      let rest = all_agree ts (λ n c. agree n (Contains-append_right (names_in t) (flat_map names_in ts) n c)) in
      ap (λ m. m ∷ map seen (map (measure_with a) ts)) here ∙ ap (λ ms. seen (measure_with b t) ∷ ms) rest

  -- of a declared type
  pub decl_agrees : (d : Decl) → Agree (held_names d) → seen (measure_decl a d) ≡ seen (measure_decl b d)
  decl_agrees (decl.Struct name fields) agree =
      parts.members (map (measure_with a) (held_types (decl.Struct name fields))) (map (measure_with b) (held_types (decl.Struct name fields))) (all_agree (held_types (decl.Struct name fields)) agree)
  decl_agrees (decl.Enum name cases) agree =
      parts.payloads (map (measure_with a) (held_types (decl.Enum name cases))) (map (measure_with b) (held_types (decl.Enum name cases))) (all_agree (held_types (decl.Enum name cases)) agree)
  decl_agrees (decl.Class name superclass fields) agree = refl

-- no type or several are a tuple
pub together_many : (ts : List TypeName) → (length ts ≡ 1 → ⊥) → together ts ≡ Tuple ts
together_many [] h = refl
together_many (t ∷ []) h = absurd (h refl)
together_many (t ∷ u ∷ ts) h = refl

-- an address has the measure of what it points to
pub measure_target : (known : Name → Measure) (t : TypeName) → measure_with known (target_of t) ≡ measure_with known t
measure_target known t = at (out-TypeName t) (fold_out-TypeName Measure (measure_over known) t)
  where
    at : (y : TypeName-F TypeName) → measure_with known t ≡ measure_over known (map-TypeName TypeName Measure (measure_with known) y) → measure_with known (target_at t y) ≡ measure_with known t
    at (TypeName-F.Int width) e = refl
    at (TypeName-F.Named n) e = refl
    at (TypeName-F.Optional u) e = refl
    at (TypeName-F.Tuple us) e = refl
    at (TypeName-F.Weak u) e = refl
    at (TypeName-F.Unowned u) e = refl
    at (TypeName-F.Address u) e = sym e
