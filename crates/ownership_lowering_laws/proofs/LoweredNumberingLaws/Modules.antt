-- The lowered module of a typed one in numbered form is in numbered form, but for the limit on instructions, and no function of it is in ownership form.
use Rattle.std.proofs.Common.{◌≡◌, ℕ, ◌+◌, ◌≤◌, List, [], ◌∷◌, ◌++◌, length, map, length-append, refl, sym, ap, ap₂, ◌∙◌, subst, arith, Some}
use Rattle.std.specs.Prelude.{slice_get}
use Rattle.std.proofs.lemmas.List.{length-map}
use Rattle.sil_ast.specs.declared.decl.Field.{Field}
use Rattle.sil_ast.specs.declared.function.Block.{Block}
use Rattle.sil_ast.specs.declared.function.Form.{Form}
use Rattle.sil_ast.specs.declared.function.Form.TheVariants.{Ossa, Lowered, External}
use Rattle.sil_ast.specs.declared.function.Function.{Function}
use Rattle.sil_ast.specs.declared.member.Member.{Member}
use Rattle.sil_ast.specs.declared.module.Module.{Module}
use Rattle.sil_ast.specs.declared.type_name.TypeName.{TypeName}
use Rattle.ownership_lowering_model.specs.Extracts.{member_of}
use Rattle.ownership_lowering_model.specs.LoweredModules.{lowered, lowered_body, lowered_by, lowered_function}
use Rattle.numbered_form.specs.Insts.{EachInFunction, insts_in, insts_of}
use Rattle.numbered_form.specs.Lists.{Each}
use Rattle.numbered_form.specs.Names.{AreOnce, IsFunctionSpelled, IsInstSpelled, IsMemberSpelled, function_name}
use Rattle.numbered_form.specs.Numbering.{IsFunctionNumbered, IsVtableInRange}
use Rattle.numbered_form.specs.inner.Functions.{IsFormed}
use Rattle.numbered_form.specs.inner.Limits.{IsFunctionInLimits}
use Rattle.numbered_form.specs.inner.Literals.{HasLiterals}
use Rattle.numbered_form.specs.inner.NumberedForm.{IsNumbered}
use Rattle.numbered_form.specs.inner.Parts.{FunctionHasParts}
use Rattle.numbered_form.specs.inner.Types.{HasFunctionTypes, IsPlacedType}
use Rattle.holder_model_typing.specs.holder_model.RunTyping.Runnable.{IsBodyInLimits, IsNearlyNumbered, IsNotOwned, IsShort}
use Rattle.holder_model_typing.specs.sil_types.Typing.Typed.{Typed}
use Rattle.sil_types_declarations.specs.TypeDefinitions.Declarations.{Declarations, declarations_of}
use Rattle.sil_types_declarations.specs.TypeDefinitions.Mentions.{Mention, function_members, in_function}
use Rattle.ownership_lowering_laws.specs.LoweringLaws.inner.Lowerable.{HasNoRings}
use Rattle.numbered_form.proofs.Lists.{each_weaker}
use Rattle.ownership_lowering_laws.proofs.LoweringLaws.Structs.{IsStruct}
use Rattle.holder_model_typing.proofs.RunTypingLaws.Declared.{each_from}
use Rattle.holder_model_typing.proofs.RunTypingLaws.ListFacts.{each_map}
use Rattle.holder_model_typing.proofs.RunTypingLaws.Rows.Finding.{each_at}
use Rattle.ownership_lowering_laws.specs.LoweredNumberingLaws.inner.Laws.{IsLoweredNumbered}
use Rattle.ownership_lowering_laws.proofs.LoweredNumberingLaws.Functions.{body_has_as_many, body_limits, body_literals, body_numbered, body_parts, body_spelled, body_types}
use Rattle.ownership_lowering_laws.proofs.LoweredNumberingLaws.Members.{members_spelled}
use Rattle.ownership_lowering_laws.proofs.LoweredNumberingLaws.Sizes.{each_of}

-- a function of a few instructions has short blocks
short_blocks : (bs : List Block) → length (insts_in bs) ≤ 4096 → Each IsShort bs
short_blocks [] le = tt
short_blocks (b ∷ bs) le =
    let all : length (insts_of b ++ insts_in bs) ≡ length (insts_of b) + length (insts_in bs) = length-append (insts_of b) (insts_in bs) in
    (let few : length (insts_of b) ≤ 4096 = omega arith in omega arith, short_blocks bs (omega arith))

pub body_in_limits : (f : Function) → IsFunctionInLimits f → IsBodyInLimits f
body_in_limits f h = record {
  attributes = h.attributes;
  signature = h.signature;
  blocks = h.blocks;
  values = h.values;
  each = h.each;
  short = short_blocks f.blocks h.insts;
}

-- ---- functions by their form

module _ (d : Declarations) (f : Function) where
  -- what holds of the lowered body of one in ownership form, and of one in another form, holds of what it is lowered to
  pub by_form : (P : Function → Type 0) → (f.form ≡ Ossa → P (lowered_body d f)) → (IsNotOwned f → P f) → P (lowered_function d f)
  by_form P body same = at f.form refl
    where
      at : (form : Form) → f.form ≡ form → P (lowered_by form d f)
      at Ossa e = body e
      at Lowered e = same (λ owned. (let differ : Ossa ≡ Lowered = sym owned ∙ e in absurd (cc)))
      at External e = same (λ owned. (let differ : Ossa ≡ External = sym owned ∙ e in absurd (cc)))

  same_name : function_name (lowered_function d f) ≡ function_name f
  same_name = by_form (λ g. function_name g ≡ function_name f) (λ e. refl) (λ e. refl)

same_names : (d : Declarations) (fs : List Function) → map function_name (map (lowered_function d) fs) ≡ map function_name fs
same_names d [] = refl
same_names d (f ∷ fs) = ap₂ (λ x xs. x ∷ xs) (same_name d f) (same_names d fs)

no_blocks : (xs ys : List Block) → length xs ≡ length ys → xs ≡ [] → ys ≡ []
no_blocks xs [] e none = refl
no_blocks xs (y ∷ ys) e none = let some : length xs ≡ 0 = ap length none in absurd (omega arith)

module _ (m : Module) (numbered : IsNumbered m) (typed : Typed m) (rings : HasNoRings m) where
  abbrev d : Declarations
  d = declarations_of m

  pub of_functions : (P : Function → Type 0) → ((n : ℕ) (f : Function) → slice_get m.functions n ≡ Some f → P (lowered_function d f))
      → Each P (lowered m).functions
  of_functions P h = each_map (lowered_function d) (λ f. P (lowered_function d f)) P (λ f x. x) m.functions
      (each_from (λ f. P (lowered_function d f)) m.functions h)

  pub as_many : length (lowered m).functions ≡ length m.functions
  as_many = length-map m.functions (lowered_function d)

  module _ (n : ℕ) (f : Function) (there : slice_get m.functions n ≡ Some f) where
    -- nothing more is asked of types and members
    abbrev AnyType : Mention → Type 0
    AnyType t = Unit {0}

    abbrev AnyMember : Member → Type 0
    AnyMember x = Unit {0}

    mentioned : Each AnyType (in_function f)
    mentioned = each_of AnyType (λ t. tt) (in_function f)

    named : Each AnyMember (function_members f)
    named = each_of AnyMember (λ x. tt) (function_members f)

    members : (t : TypeName) (fields : List Field) (struct : IsStruct d t fields) → IsPlacedType t
        → Each (λ x. IsMemberSpelled x × AnyMember x) (map (member_of struct.name) fields)
    members t fields struct placed =
        each_weaker IsMemberSpelled (λ x. IsMemberSpelled x × AnyMember x) (λ x h. (h, tt)) (map (member_of struct.name) fields)
        (members_spelled m numbered t fields struct placed)

    own : (P : Function → Type 0) → Each P m.functions → P f
    own P h = each_at P m.functions n f h there

    formed : f.form ≡ Ossa → IsFormed (lowered_body d f)
    formed owned = record {
      attributes = (own IsFormed numbered.functions).attributes;
      external = (
        λ e. absurd (cc),
        λ none. (let differ : Ossa ≡ External = sym owned ∙ (own IsFormed numbered.functions).external.1
            (no_blocks (lowered_body d f).blocks f.blocks (body_has_as_many d f) none) in absurd (cc)),
      );
    }

    pub function_numbered : IsFunctionNumbered (length m.functions) (lowered_function d f)
    function_numbered =
        by_form d f (IsFunctionNumbered (length m.functions))
        (λ e. body_numbered m n f numbered typed rings there AnyType AnyMember mentioned named (λ t u a o h. tt) members)
        (λ e. own (IsFunctionNumbered (length m.functions)) numbered.numbering.functions)

    pub function_parts : FunctionHasParts (lowered_function d f)
    function_parts =
        by_form d f FunctionHasParts (λ e. body_parts m n f numbered typed rings there AnyType AnyMember mentioned named (λ t u a o h. tt) members)
        (λ e. own FunctionHasParts numbered.parts)

    pub function_literals : EachInFunction HasLiterals (lowered_function d f)
    function_literals =
        by_form d f (EachInFunction HasLiterals)
        (λ e. body_literals m n f numbered typed rings there AnyType AnyMember mentioned named (λ t u a o h. tt) members)
        (λ e. own (EachInFunction HasLiterals) numbered.literals)

    pub function_spelled : IsFunctionSpelled (lowered_function d f)
    function_spelled =
        let h = own IsFunctionSpelled numbered.names.functions in
        by_form d f IsFunctionSpelled (λ e. record { name = h.name; attributes = h.attributes }) (λ e. h)

    pub insts_spelled : EachInFunction IsInstSpelled (lowered_function d f)
    insts_spelled =
        by_form d f (EachInFunction IsInstSpelled)
        (λ e. body_spelled m n f numbered typed rings there AnyType AnyMember mentioned named (λ t u a o h. tt) members)
        (λ e. own (EachInFunction IsInstSpelled) numbered.names.insts)

    pub function_types : HasFunctionTypes (lowered_function d f)
    function_types =
        by_form d f HasFunctionTypes (λ e. body_types m n f numbered typed rings there AnyType AnyMember mentioned named (λ t u a o h. tt) members)
        (λ e. own HasFunctionTypes numbered.types.functions)

    pub function_formed : IsFormed (lowered_function d f)
    function_formed = by_form d f IsFormed formed (λ e. own IsFormed numbered.functions)

    pub function_limits : IsBodyInLimits (lowered_function d f)
    function_limits =
        by_form d f IsBodyInLimits (λ e. body_limits m n f numbered typed rings there AnyType AnyMember mentioned named (λ t u a o h. tt) members)
        (λ e. body_in_limits f (own IsFunctionInLimits numbered.limits.each))

    pub function_not_owned : IsNotOwned (lowered_function d f)
    function_not_owned = by_form d f IsNotOwned (λ e owned. absurd (cc)) (λ e. e)

  nearly_numbered : IsNearlyNumbered (lowered m)
  nearly_numbered = record {
    numbering = record {
      functions = subst (λ k. Each (IsFunctionNumbered k) (lowered m).functions) (sym as_many)
          (of_functions (IsFunctionNumbered (length m.functions)) function_numbered);
      vtables = subst (λ k. Each (IsVtableInRange k) m.vtables) (sym as_many) numbered.numbering.vtables;
    };
    parts = of_functions FunctionHasParts function_parts;
    literals = of_functions (EachInFunction HasLiterals) function_literals;
    fields = numbered.fields;
    names = record {
      declarations = numbered.names.declarations;
      functions = of_functions IsFunctionSpelled function_spelled;
      vtables = numbered.names.vtables;
      insts = of_functions (EachInFunction IsInstSpelled) insts_spelled;
    };
    once = record {
      declarations = numbered.once.declarations;
      members = numbered.once.members;
      functions = subst AreOnce (sym (same_names d m.functions)) numbered.once.functions;
      vtables = numbered.once.vtables;
    };
    types = record { declarations = numbered.types.declarations; functions = of_functions HasFunctionTypes function_types };
    functions = of_functions IsFormed function_formed;
    limits = record {
      declarations = numbered.limits.declarations;
      members = numbered.limits.members;
      functions = subst (λ k. k ≤ 1024) (sym as_many) numbered.limits.functions;
      each = of_functions IsBodyInLimits function_limits;
    };
  }

pub lowered_is_numbered : IsLoweredNumbered
lowered_is_numbered m numbered typed rings =
    (nearly_numbered m numbered typed rings, of_functions m numbered typed rings IsNotOwned (function_not_owned m numbered typed rings))
