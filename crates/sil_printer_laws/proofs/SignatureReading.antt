-- A printed signature reads as itself.
use Rattle.std.proofs.Common.{◌≡◌, ℕ, suc, List, [], ◌∷◌, ◌++◌, length, Bool, true, false, if◌then◌else◌, codes, refl, ap, ◌∙◌, arith, IsTrue}
use Rattle.std.specs.Prelude.{◌&&◌, not}
use Rattle.std.proofs.lemmas.Bool.{false≢true}
use Rattle.std.proofs.lemmas.List.{append_assoc}
use Rattle.sil_ast.specs.declared.signature.Convention.{Convention}
use Rattle.sil_ast.specs.declared.signature.Convention.TheVariants as convention
use Rattle.sil_ast.specs.declared.signature.Given.{Given}
use Rattle.sil_ast.specs.declared.signature.Param.{Param}
use Rattle.sil_ast.specs.declared.signature.Passing.{Passing}
use Rattle.sil_ast.specs.declared.signature.Passing.TheVariants as passing
use Rattle.sil_ast.specs.declared.signature.Signature.{Signature}
use Rattle.sil_ast.specs.declared.type_name.TypeName.{TypeName}
use Rattle.sil_printer.specs.CanonicalSignatures.{convention_text, given_text, param_text, passing_text, results_text, signature_text}
use Rattle.sil_printer.specs.CanonicalTypes.{opens_parens, type_text}
use Rattle.sil_printer.specs.Words.{in_parens, listed}
use Rattle.sil_grammar_classes.specs.declared.classes.AtWord.TheVariants as a
use Rattle.sil_grammar_tables.specs.declared.grammar.Nonterminal.TheVariants as n
use Rattle.sil_grammar_tables.specs.declared.grammar.Production.TheVariants as p
use Rattle.sil_grammar_tables.specs.declared.grammar.Symbol.TheVariants.{Part}
use Rattle.sil_grammar_tables.specs.Grammar.{body, written}
use Rattle.sil_grammar_classes.specs.Spelling.{at_spelling, at_word_of, at_words, keyword_of, keywords, known_at_word, known_keyword, punctuation_of, punctuation_spelling, signs, spelling}
use Rattle.sil_rules.specs.declared.limit_word.LimitWord.TheVariants as limit
use Rattle.sil_grammar_values.specs.inner.Meaning.{meaning}
use Rattle.sil_grammar_values.specs.Opened.{PartGivens, PartParams, PartValue}
use Rattle.sil_grammar_values.specs.inner.PartFaults.{part_fault}
use Rattle.sil_grammar_values.specs.Values.{convention_of, given_before, givens_of, param_before, params_of, signature_of, type_of}
use Rattle.numbered_form.specs.Lists.{Each}
use Rattle.numbered_form.specs.inner.Limits.{IsSignatureInLimits}
use Rattle.numbered_form.specs.inner.Types.{HasParamType, HasSignatureTypes, IsGivenWritten, IsPlainType}
use Rattle.sil_grammar.proofs.NumberedReadingLaws.ListsAndFaults.{Each-weaker}
use Rattle.sil_printer_laws.proofs.Commas.{AllItems, list_reads}
use Rattle.sil_printer_laws.proofs.PartLimits.{not_passed}
use Rattle.sil_printer_laws.proofs.Pieces.{Ends, Reads as reads, ReadsAs, Stands, behind}
use Rattle.sil_printer_laws.proofs.Tokens.{arrow_token, at_token, punctuation_token, word_token}
use Rattle.sil_printer_laws.proofs.WordReading.{worded_reads}
use Rattle.sil_printer_laws.proofs.TypeReading.{open_type_reads, type_reads}
use Rattle.sil_grammar_tree.proofs.WrittenTree.FaultOrder.{neither}

-- lists in front of which the values of parts are put, each with the place where it begins
module _ {A L : Type 0} (items : L → List A) (places : L → ℕ) (before : PartValue → L → L) where
  -- in front of a list the part is this item
  abbrev IsInFront : A → PartValue → Type 0
  IsInFront item x = (others : L) → (items (before x others) ≡ item ∷ items others) × (places (before x others) ≡ suc (places others))

  abbrev AreItems : List A → L → Type 0
  AreItems xs list = (items list ≡ xs) × (places list ≡ length xs)

  put_in_front : (item : A) (xs : List A) (x : PartValue) (others : L) → IsInFront item x → AreItems xs others → AreItems (item ∷ xs) (before x others)
  put_in_front item xs x others is are = ((is others).0 ∙ ap (λ others. item ∷ others) are.0, (is others).1 ∙ ap suc are.1)

-- parameters

abbrev params_in : PartParams → List Param
params_in list = list.params

abbrev param_count : PartParams → ℕ
param_count list = length list.firsts

abbrev IsParamValue : Param → PartValue → Type 0
IsParamValue = IsInFront params_in param_count param_before

abbrev AreParamValues : List Param → PartValue → Type 0
AreParamValues params x = AreItems params_in param_count param_before params (params_of x)

all_params : AllItems (Part n.Param) n.MoreParams n.Params IsParamValue AreParamValues
unfolding body written part_fault meaning params_of
all_params = record {
  others = record {
    again = p.MoreParamsMore;
    end = p.MoreParamsEnd;
    again_is = (refl, refl, λ parts. refl);
    again_makes = λ param params comma first others is are. put_in_front params_in param_count param_before param params first (params_of others) is are;
    end_is = (refl, refl, λ parts. refl);
    end_makes = (refl, refl);
  };
  some = p.ParamsSome;
  none = p.ParamsNone;
  some_is = (refl, refl, λ parts. refl);
  some_makes = λ param params first others is are. put_in_front params_in param_count param_before param params first (params_of others) is are;
  none_is = (refl, refl, λ parts. refl);
  none_makes = (refl, refl);
}

abbrev passed_as : Passing → TypeName → Param
passed_as passing t = record { passing = passing; ty = t }

-- results

abbrev givens_in : PartGivens → List Given
givens_in list = list.givens

abbrev given_count : PartGivens → ℕ
given_count list = length list.firsts

abbrev IsGivenValue : Given → PartValue → Type 0
IsGivenValue = IsInFront givens_in given_count given_before

abbrev AreGivenValues : List Given → PartValue → Type 0
AreGivenValues givens x = AreItems givens_in given_count given_before givens (givens_of x)

all_givens : AllItems (Part n.Given) n.MoreGivens n.ResultsInside IsGivenValue AreGivenValues
unfolding body written part_fault meaning givens_of
all_givens = record {
  others = record {
    again = p.MoreGivensMore;
    end = p.MoreGivensEnd;
    again_is = (refl, refl, λ parts. refl);
    again_makes = λ given givens comma first others is are. put_in_front givens_in given_count given_before given givens first (givens_of others) is are;
    end_is = (refl, refl, λ parts. refl);
    end_makes = (refl, refl);
  };
  some = p.InsideSome;
  none = p.InsideNone;
  some_is = (refl, refl, λ parts. refl);
  some_makes = λ given givens first others is are. put_in_front givens_in given_count given_before given givens first (givens_of others) is are;
  none_is = (refl, refl, λ parts. refl);
  none_makes = (refl, refl);
}

abbrev given_as : Bool → Bool → TypeName → Given
given_as owned out t = record { owned = owned; out = out; ty = t }

module _ (text : List ℕ) where
  param_reads : (passing : Passing) (t : TypeName) → IsPlainType t
      → ReadsAs text (Part n.Param) (IsParamValue (passed_as passing t)) (passing_text passing ++ type_text t)
  unfolding body written part_fault meaning param_before type_of at_word_of known_at_word at_words at_spelling
  param_reads passing.Plain t plain after ends =
      let r = type_reads text t after plain ends in
      record {
        value = _;
        stands = λ others. (ap (λ t. passed_as passing.Plain t ∷ others.params) r.stands.ty, refl);
        reads = reads.rule p.ParamPlain r.reads refl reads.nothing;
      }
  param_reads passing.Owned t plain after ends = worded_reads p.ParamOwned a.Owned refl refl refl refl
      (λ sigil inside is others. (ap (λ t. passed_as passing.Owned t ∷ others.params) is.ty, refl)) (λ sigil inside is. refl) (type_reads text t after plain ends)
  param_reads passing.Guaranteed t plain after ends = worded_reads p.ParamGuaranteed a.Guaranteed refl refl refl refl
      (λ sigil inside is others. (ap (λ t. passed_as passing.Guaranteed t ∷ others.params) is.ty, refl)) (λ sigil inside is. refl) (type_reads text t after plain ends)
  param_reads passing.Inout t plain after ends = worded_reads p.ParamInout a.Inout refl refl refl refl
      (λ sigil inside is others. (ap (λ t. passed_as passing.Inout t ∷ others.params) is.ty, refl)) (λ sigil inside is. refl) (type_reads text t after plain ends)
  param_reads passing.In t plain after ends = worded_reads p.ParamIn a.In refl refl refl refl
      (λ sigil inside is others. (ap (λ t. passed_as passing.In t ∷ others.params) is.ty, refl)) (λ sigil inside is. refl) (type_reads text t after plain ends)
  param_reads passing.InGuaranteed t plain after ends = worded_reads p.ParamInGuaranteed a.InGuaranteed refl refl refl refl
      (λ sigil inside is others. (ap (λ t. passed_as passing.InGuaranteed t ∷ others.params) is.ty, refl)) (λ sigil inside is. refl) (type_reads text t after plain ends)

  params_read : (params : List Param) → Each HasParamType params → ReadsAs text (Part n.Params) (AreParamValues params) (listed param_text params)
  params_read params types = list_reads text (Part n.Param) n.MoreParams IsParamValue AreParamValues param_text n.Params all_params params
      (Each-weaker HasParamType (λ param. ReadsAs text (Part n.Param) (IsParamValue param) (param_text param)) (λ param plain. param_reads param.passing param.ty plain) params types)

  given_reads : (owned out : Bool) (t : TypeName) → IsTrue (not (owned && out)) → IsPlainType t
      → ReadsAs text (Part n.Given) (IsGivenValue (given_as owned out t)) (given_text (given_as owned out t))
  unfolding body written part_fault meaning given_before type_of at_word_of known_at_word at_words at_spelling
  given_reads true true t word plain after ends = absurd (false≢true word)
  given_reads true false t word plain after ends = worded_reads p.GivenOwned a.Owned refl refl refl refl
      (λ sigil inside is others. (ap (λ t. given_as true false t ∷ others.givens) is.ty, refl)) (λ sigil inside is. refl) (type_reads text t after plain ends)
  given_reads false true t word plain after ends = worded_reads p.GivenOut a.Out refl refl refl refl
      (λ sigil inside is others. (ap (λ t. given_as false true t ∷ others.givens) is.ty, refl)) (λ sigil inside is. refl) (type_reads text t after plain ends)
  given_reads false false t word plain after ends =
      let r = type_reads text t after plain ends in
      record {
        value = _;
        stands = λ others. (ap (λ t. given_as false false t ∷ others.givens) r.stands.ty, refl);
        reads = reads.rule p.GivenPlain r.reads refl reads.nothing;
      }

  -- results in parentheses
  results_between : (givens : List Given) → Each IsGivenWritten givens → ReadsAs text (Part n.Results) (AreGivenValues givens) (in_parens given_text givens)
  unfolding body written part_fault meaning givens_of punctuation_of punctuation_spelling signs
  results_between givens types after ends =
      let each = Each-weaker IsGivenWritten (λ given. ReadsAs text (Part n.Given) (IsGivenValue given) (given_text given))
      (λ given h. given_reads given.owned given.out given.ty h.word h.ty) givens types in
      let r = list_reads text (Part n.Given) n.MoreGivens IsGivenValue AreGivenValues given_text n.ResultsInside all_givens givens each (41 ∷ after) refl in
      rw (append_assoc (listed given_text givens) (codes ")") after) (record {
        value = _;
        stands = r.stands;
        reads = reads.rule p.ResultList (punctuation_token 40 refl refl (behind r.reads (punctuation_token 41 refl refl reads.nothing))) refl reads.nothing;
      })

  -- one result, which stands by itself where it doesn't begin with a parenthesis
  result_reads : (owned out : Bool) (t : TypeName) → IsTrue (not (owned && out)) → IsPlainType t → (opens : Bool)
      → opens_parens (given_text (given_as owned out t)) ≡ opens
      → ReadsAs text (Part n.Results) (AreGivenValues (given_as owned out t ∷ []))
      (if opens then in_parens given_text (given_as owned out t ∷ []) else given_text (given_as owned out t))
  unfolding body written part_fault meaning givens_of type_of at_word_of known_at_word at_words at_spelling
  result_reads owned out t word plain true e after ends = results_between (given_as owned out t ∷ []) (record { word = word; ty = plain }, tt) after ends
  result_reads true true t word plain false e after ends = absurd (false≢true word)
  result_reads true false t word plain false e after ends = worded_reads p.ResultOwned a.Owned refl refl refl refl
      (λ sigil inside is. (ap (λ t. given_as true false t ∷ []) is.ty, refl)) (λ sigil inside is. refl) (type_reads text t after plain ends)
  result_reads false true t word plain false e after ends = worded_reads p.ResultOut a.Out refl refl refl refl
      (λ sigil inside is. (ap (λ t. given_as false true t ∷ []) is.ty, refl)) (λ sigil inside is. refl) (type_reads text t after plain ends)
  result_reads false false t word plain false e after ends =
      let r = open_type_reads text t after plain e ends in
      record {
        value = _;
        stands = (ap (λ t. given_as false false t ∷ []) r.stands.ty, refl);
        reads = reads.rule p.ResultPlain r.reads refl reads.nothing;
      }

  results_read : (givens : List Given) → Each IsGivenWritten givens → ReadsAs text (Part n.Results) (AreGivenValues givens) (results_text givens)
  results_read [] types = results_between [] types
  results_read (given ∷ []) types = result_reads given.owned given.out given.ty types.0.word types.0.ty (opens_parens (given_text given)) refl
  results_read (given ∷ other ∷ others) types = results_between (given ∷ other ∷ others) types

-- the word between the parentheses of a convention
abbrev convention_word : Convention → List ℕ
convention_word convention.Thin = codes "thin"
convention_word convention.Method = codes "method"

convention_text-word : (c : Convention) → convention_text c ≡ codes "@convention(" ++ convention_word c ++ codes ") "
convention_text-word convention.Thin = refl
convention_text-word convention.Method = refl

convention_reads : (text : List ℕ) (c : Convention) → ReadsAs text (Part n.Convention) (λ x. convention_of x ≡ c) (convention_word c)
unfolding body written part_fault meaning convention_of keyword_of known_keyword keywords spelling
convention_reads text convention.Thin after ends = record { value = _; stands = refl; reads = reads.rule p.Thin (word_token (codes "thin") refl refl ends reads.nothing) refl reads.nothing }
convention_reads text convention.Method after ends = record { value = _; stands = refl; reads = reads.rule p.Method (word_token (codes "method") refl refl ends reads.nothing) refl reads.nothing }

five_pieces : (a b c d e after : List ℕ) → (a ++ b ++ c ++ d ++ e) ++ after ≡ a ++ (b ++ (c ++ (d ++ (e ++ after))))
five_pieces a b c d e after =
    append_assoc (a ++ b ++ c ++ d) e after ∙ append_assoc (a ++ b ++ c) d (e ++ after)
    ∙ append_assoc (a ++ b) c (d ++ (e ++ after)) ∙ append_assoc a b (c ++ (d ++ (e ++ after)))

-- the text of a signature, piece by piece
signature_pieces : (s : Signature) (after : List ℕ) → signature_text s ++ after
    ≡ codes "@convention(" ++ (convention_word s.convention ++ (codes ") (" ++ (listed param_text s.params ++ (codes ") -> " ++ (results_text s.results ++ after)))))
signature_pieces s after =
    let convention = convention_word s.convention in
    let params = listed param_text s.params in
    let results = results_text s.results in
    rw (convention_text-word s.convention)
    (ap (λ rest. codes "@convention(" ++ rest)
    (five_pieces convention (codes ") ") (in_parens param_text s.params) (codes " -> ") results after
    ∙ ap (λ rest. convention ++ (codes ") (" ++ rest)) (append_assoc params (codes ")") (codes " -> " ++ (results ++ after)))))

same_signature : (c : Convention) (params : List Param) (results : List Given) (s : Signature) → c ≡ s.convention → params ≡ s.params → results ≡ s.results
    → record { convention = c; params = params; results = results } ≡ s
same_signature c params results s e f g =
    ap (λ c. record { convention = c; params = params; results = results }) e
    ∙ ap (λ params. record { convention = s.convention; params = params; results = results }) f
    ∙ ap (λ results. record { convention = s.convention; params = s.params; results = results }) g

pub signature_reads : (text : List ℕ) (s : Signature) (after : List ℕ) → HasSignatureTypes s → IsSignatureInLimits s → Ends after
    → Stands text n.FunctionType (λ x. signature_of x ≡ s) (signature_text s ++ after) after
unfolding body written part_fault meaning signature_of punctuation_of punctuation_spelling signs at_word_of known_at_word at_words at_spelling
signature_reads text s after types limits ends =
    let results = results_read text s.results types.results after ends in
    let params = params_read text s.params types.params (codes ") -> " ++ (results_text s.results ++ after)) refl in
    let convention = convention_reads text s.convention (codes ") (" ++ (listed param_text s.params ++ (codes ") -> " ++ (results_text s.results ++ after)))) refl in
    rw (signature_pieces s after) (record {
      value = _;
      stands = same_signature _ _ _ s convention.stands params.stands.0 results.stands.0;
      reads = reads.rule p.WholeFunctionType
          (at_token (codes "convention") refl refl refl (punctuation_token 40 refl refl
          (behind convention.reads (punctuation_token 41 refl refl (reads.blank 32 refl (punctuation_token 40 refl refl
          (behind params.reads (punctuation_token 41 refl refl (reads.blank 32 refl (arrow_token refl (reads.blank 32 refl results.reads)))))))))))
          (neither _ _
          (not_passed limit.Arguments 64 (params_of params.value).firsts (omega (arith, params.stands.1, limits.params)))
          (not_passed limit.Arguments 64 (givens_of results.value).firsts (omega (arith, results.stands.1, limits.results))))
          reads.nothing;
    })
