-- What functions name, and what deinitialises, is there; and marks that were found are closed.
use Rattle.std.proofs.Common.{◌≡◌, ℕ, zero, suc, List, [], ◌∷◌, length, map, refl, sym, ap, ◌∙◌, subst, Bool, Option, Some, None}
use Rattle.std.specs.Prelude.{All, get_or, slice_get, unwrap_or}
use Rattle.std.specs.List.{flat_map}
use Rattle.std.specs.Option.{option_to_list}
use Rattle.std.proofs.lemmas.List.Elements.{All-append, All-cons, All-map, All-nil}
use Rattle.std.proofs.lemmas.Option.{slice_get-get_or, slice_get_within}
use Rattle.numbered_form.specs.Names.{Name}
use Rattle.sil_ast.specs.declared.decl.Decl.{Decl}
use Rattle.sil_ast.specs.declared.decl.Decl.TheVariants.{Class, Enum, Struct}
use Rattle.sil_ast.specs.declared.module.Module.{Module}
use Rattle.sil_ast.specs.declared.place.FuncId.{FuncId}
use Rattle.sil_ast.specs.declared.type_name.TypeName.{TypeName}
use Rattle.sil_types.specs.Typing.Shapes.{target}
use Rattle.sil_types.specs.Typing.Values.{function_at, type_at, value_functions, value_types}
use Rattle.sil_types_declarations.specs.TypeDefinitions.Declarations.{Declarations, ancestors_of, declarations_of}
use Rattle.sil_types_declarations.specs.TypeDefinitions.Lookups.{deinit_of}
use Rattle.holder_model_typing.specs.holder_model.Dropping.{deinits_of_class}
use Rattle.holder_model_typing.specs.holder_model.RunTyping.Forms.{OfFunction, form_by, form_with}
use Rattle.holder_model_typing.specs.holder_model.RunTyping.Runnable.{IsRunnable}
use Rattle.count_machine_model.specs.ReadyCode.ReadyModules.{IsClosed, Reaches, ready_class}
use Rattle.count_machine_model.specs.declared.ready_code.function.ReadyClass.{ReadyClass}
use Rattle.holder_model_typing.proofs.RunTypingLaws.CallFacts.{function_only}
use Rattle.holder_model_typing.proofs.RunTypingLaws.FunctionFacts.{typed_function}
use Rattle.holder_model_typing.proofs.RunTypingLaws.Rows.Finding.{all_at}
use Rattle.holder_model_typing.proofs.RunTypingLaws.RunnableTyped.{runnable_is_typed, well_typed}
use Rattle.count_machine_layouts.specs.ReachedFunctions.inner.Reaching.{AreFound, HaveDeinitsInside, HoldsOfDeinits, HoldsOfNamed, IsInside, NamesAreInside}

-- what functions name, and what deinitialises, is there

module _ (m : Module) (r : IsRunnable m) where
  abbrev d : Declarations
  d = declarations_of m

  abbrev Inside : FuncId → Type 0
  Inside = IsInside (length m.functions)

  pub names_inside : NamesAreInside m
  names_inside n f there k default lt = by (get_or (value_functions f) k default) (slice_get-get_or (value_functions f) k default lt)
    where
      by : (named : Option FuncId) → slice_get (value_functions f) k ≡ Some named → HoldsOfNamed Inside named
      by None at = tt
      by (Some g) at = (function_only m f (typed_function m (well_typed m r) n f there) k g (ap (λ o. unwrap_or o None) at)).1

  deinit_inside : (class : Name) → All Inside (deinits_of_class d class)
  deinit_inside class = by (deinit_of d class) refl
    where
      by : (o : Option FuncId) → deinit_of d class ≡ o → All Inside (option_to_list o)
      by None is = All-nil Inside
      by (Some g) is =
          let deinit = (runnable_is_typed m r).deinits class g is in
          All-cons Inside g [] (slice_get_within m.functions g.0 deinit.body deinit.there) (All-nil Inside)

  deinits_among : (classes : List Name) → All Inside (flat_map (deinits_of_class d) classes)
  deinits_among [] = All-nil Inside
  deinits_among (c ∷ classes) =
      All-append Inside (deinits_of_class d c) (flat_map (deinits_of_class d) classes) (deinit_inside c) (deinits_among classes)

  class_inside : (x : Decl) → HoldsOfDeinits Inside (ready_class d x)
  class_inside (Struct name fields) = All-nil Inside
  class_inside (Enum name cases) = All-nil Inside
  class_inside (Class name superclass fields) = deinits_among (name ∷ ancestors_of d name)

  pub deinits_inside : (classes : List ReadyClass) → classes ≡ map (ready_class d) m.decls → HaveDeinitsInside (length m.functions) classes
  deinits_inside classes is =
      subst (HaveDeinitsInside (length m.functions)) (sym is)
      (All-map (HoldsOfDeinits Inside) (ready_class d) m.decls (λ k default lt. class_inside (get_or m.decls k default)))

-- marks that were found are closed

-- a value of the form of a function stands for this function
stands_for : (d : Declarations) (t : Option TypeName) (named : Option FuncId) (h : FuncId) → form_by d t named ≡ OfFunction h → named ≡ Some h
stands_for d None None h e = absurd (cc)
stands_for d None (Some g) h e = cc
stands_for d (Some t) named h e = by (target t) e
  where
    by : (o : Option TypeName) → form_with d t o ≡ OfFunction h → named ≡ Some h
    by None e = absurd (cc)
    by (Some inner) e = absurd (cc)

named_at : (xs : List (Option FuncId)) (k : ℕ) (h : FuncId) → function_at xs k ≡ Some h → slice_get xs k ≡ Some (Some h)
named_at [] k h e = absurd (cc)
named_at (x ∷ xs) zero h e = ap Some e
named_at (x ∷ xs) (suc k) h e = named_at xs k h e

pub found_closed : (m : Module) (classes : List ReadyClass) (entry : FuncId) (reached : List Bool) → classes ≡ map (ready_class (declarations_of m)) m.decls
    → AreFound m classes entry reached → IsClosed m reached
found_closed m classes entry reached is found = record {
  calls = λ g f marked there v h form.
      let d = declarations_of m in
      let named = stands_for d (type_at (value_types d f) v.0) (function_at (value_functions f) v.0) h form in
      all_at (HoldsOfNamed (Reaches reached)) (value_functions f) v.0 (Some h) (found.followed g f marked there) (named_at (value_functions f) v.0 h named);
  deinits = λ k class at j h there.
      let own = all_at (HoldsOfDeinits (Reaches reached)) classes k class found.deinits (ap (λ (cs : List ReadyClass). slice_get cs k) is ∙ at) in
      all_at (Reaches reached) class.deinits j h own there;
}
