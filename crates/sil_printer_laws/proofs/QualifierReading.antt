-- The printed words in brackets read as themselves: flags and qualifiers.
use Rattle.std.proofs.Common.{◌≡◌, ℕ, List, ◌++◌, Bool, true, false, IsTrue, refl, sym, codes, true≢false}
use Rattle.sil_ast.specs.declared.inst.Qualifier.{Qualifier}
use Rattle.sil_ast.specs.declared.inst.Qualifier.TheVariants as q
use Rattle.sil_printer.specs.CanonicalInsts.{qualifier_text}
use Rattle.sil_printer.specs.Words.{if_set}
use Rattle.sil_grammar_tables.specs.Grammar.{body, written}
use Rattle.sil_grammar_classes.specs.Spelling.{keyword_of, keywords, known_keyword, punctuation_of, punctuation_spelling, signs, spelling}
use Rattle.sil_grammar_tables.specs.declared.grammar.Nonterminal.{Nonterminal}
use Rattle.sil_grammar_tables.specs.declared.grammar.Nonterminal.TheVariants as n
use Rattle.sil_grammar_tables.specs.declared.grammar.Production.TheVariants as p
use Rattle.sil_grammar_values.specs.inner.Meaning.{meaning}
use Rattle.sil_grammar_values.specs.inner.PartFaults.{part_fault}
use Rattle.sil_grammar_values.specs.Values.{flags_of, qualifier_of}
use Rattle.numbered_form.specs.inner.Parts.{is_plain_or_init, is_plain_or_take}
use Rattle.sil_printer_laws.proofs.Pieces.{Ends, Reads as reads, Stands}
use Rattle.sil_printer_laws.proofs.ProductionReading.{stands_by}
use Rattle.sil_printer_laws.proofs.Tokens.{punctuation_token, word_token}

-- ` [lexical] [var_decl]`
abbrev pub flag_words : Bool → Bool → List ℕ
flag_words lexical var_decl = if_set (codes " [lexical]") lexical ++ if_set (codes " [var_decl]") var_decl

pub ends_flags : (lexical var_decl : Bool) (rest : List ℕ) → Ends rest → Ends (flag_words lexical var_decl ++ rest)
ends_flags true var_decl rest ends = refl
ends_flags false true rest ends = refl
ends_flags false false rest ends = ends

pub flags_read : (text : List ℕ) (lexical var_decl : Bool) (rest : List ℕ)
    → Stands text n.Flags (λ x. ((flags_of x).lexical ≡ lexical) × ((flags_of x).var_decl ≡ var_decl)) (flag_words lexical var_decl ++ rest) rest
unfolding body written meaning part_fault flags_of punctuation_of punctuation_spelling signs keyword_of known_keyword keywords spelling
flags_read text true true rest =
    stands_by p.FlagsSome _ (reads.blank 32 refl (punctuation_token 91 refl refl (reads.rule p.LexicalFirst
    (word_token (codes "lexical") refl refl refl (punctuation_token 93 refl refl (reads.rule p.VarDeclAfterSome
    (reads.blank 32 refl (punctuation_token 91 refl refl (word_token (codes "var_decl") refl refl refl (punctuation_token 93 refl refl reads.nothing))))
    refl reads.nothing)))
    refl reads.nothing))) refl (refl, refl)
flags_read text true false rest =
    stands_by p.FlagsSome _ (reads.blank 32 refl (punctuation_token 91 refl refl (reads.rule p.LexicalFirst
    (word_token (codes "lexical") refl refl refl (punctuation_token 93 refl refl (reads.rule p.VarDeclAfterNone reads.nothing refl reads.nothing)))
    refl reads.nothing))) refl (refl, refl)
flags_read text false true rest =
    stands_by p.FlagsSome _ (reads.blank 32 refl (punctuation_token 91 refl refl (reads.rule p.VarDeclFirst
    (word_token (codes "var_decl") refl refl refl (punctuation_token 93 refl refl (reads.rule p.LexicalAfterNone reads.nothing refl reads.nothing)))
    refl reads.nothing))) refl (refl, refl)
flags_read text false false rest = stands_by p.FlagsNone _ reads.nothing refl (refl, refl)

pub ends_qualifier : (q : Qualifier) (rest : List ℕ) → Ends rest → Ends (qualifier_text q ++ rest)
ends_qualifier q.Plain rest ends = ends
ends_qualifier _ rest ends = refl

-- the part stands for the qualifier, wherever that is printed
abbrev pub ReadsQualifier : List ℕ → Nonterminal → Qualifier → Type 0
ReadsQualifier text part q = (rest : List ℕ) → Stands text part (λ x. (qualifier_of x).word ≡ q) (qualifier_text q ++ rest) rest

pub qualifier_reads : (text : List ℕ) (q : Qualifier) → ReadsQualifier text n.Qualifier q
unfolding body written meaning part_fault qualifier_of punctuation_of punctuation_spelling signs keyword_of known_keyword keywords spelling
qualifier_reads text q.Plain rest = stands_by p.QualifierNone _ reads.nothing refl refl
qualifier_reads text q.Copy rest =
    stands_by p.QualifierSome _ (reads.blank 32 refl (punctuation_token 91 refl refl
    (reads.rule p.QualifierCopy (word_token (codes "copy") refl refl refl reads.nothing) refl (punctuation_token 93 refl refl reads.nothing)))) refl refl
qualifier_reads text q.Take rest =
    stands_by p.QualifierSome _ (reads.blank 32 refl (punctuation_token 91 refl refl
    (reads.rule p.QualifierTake (word_token (codes "take") refl refl refl reads.nothing) refl (punctuation_token 93 refl refl reads.nothing)))) refl refl
qualifier_reads text q.Trivial rest =
    stands_by p.QualifierSome _ (reads.blank 32 refl (punctuation_token 91 refl refl
    (reads.rule p.QualifierTrivial (word_token (codes "trivial") refl refl refl reads.nothing) refl (punctuation_token 93 refl refl reads.nothing)))) refl refl
qualifier_reads text q.Init rest =
    stands_by p.QualifierSome _ (reads.blank 32 refl (punctuation_token 91 refl refl
    (reads.rule p.QualifierInit (word_token (codes "init") refl refl refl reads.nothing) refl (punctuation_token 93 refl refl reads.nothing)))) refl refl
qualifier_reads text q.Assign rest =
    stands_by p.QualifierSome _ (reads.blank 32 refl (punctuation_token 91 refl refl
    (reads.rule p.QualifierAssign (word_token (codes "assign") refl refl refl reads.nothing) refl (punctuation_token 93 refl refl reads.nothing)))) refl refl

-- only `[take]`
pub take_reads : (text : List ℕ) (q : Qualifier) → IsTrue (is_plain_or_take q) → ReadsQualifier text n.TakeFlag q
unfolding body written meaning part_fault qualifier_of punctuation_of punctuation_spelling signs keyword_of known_keyword keywords spelling
take_reads text q.Plain may rest = stands_by p.TakeFlagNone _ reads.nothing refl refl
take_reads text q.Take may rest =
    stands_by p.TakeFlagSome _ (reads.blank 32 refl (punctuation_token 91 refl refl (word_token (codes "take") refl refl refl (punctuation_token 93 refl refl reads.nothing)))) refl refl
take_reads text _ may rest = absurd (true≢false (sym may))

-- only `[init]`
pub init_reads : (text : List ℕ) (q : Qualifier) → IsTrue (is_plain_or_init q) → ReadsQualifier text n.InitFlag q
unfolding body written meaning part_fault qualifier_of punctuation_of punctuation_spelling signs keyword_of known_keyword keywords spelling
init_reads text q.Plain may rest = stands_by p.InitFlagNone _ reads.nothing refl refl
init_reads text q.Init may rest =
    stands_by p.InitFlagSome _ (reads.blank 32 refl (punctuation_token 91 refl refl
    (reads.rule p.InitShort (word_token (codes "init") refl refl refl reads.nothing) refl (punctuation_token 93 refl refl reads.nothing)))) refl refl
init_reads text _ may rest = absurd (true≢false (sym may))
