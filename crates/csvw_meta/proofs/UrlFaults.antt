-- The faults of the document that has a URL alone are those of the URL.
use Rattle.std.proofs.Common.{◌≡◌, ◌++◌, ℕ, zero, suc, List, [], Contains, Some, None, Result, Ok, Err, inl, inr, ap, sym, subst, arith, codes}
use Rattle.url.specs.Parts.{Parts}
use Rattle.csvw_iri.specs.Link.{base_of, bad, too_long}
use Rattle.csvw_iri.specs.Link as iri
use Rattle.csvw_meta_core.specs.declared.fault.MetaCode.TheVariants.{BadUrl, UrlTooLong}
use Rattle.csvw_meta_core.specs.declared.fault.MetaFault.{MetaFault}
use Rattle.csvw_meta_core.specs.declared.fault.Refusal.{Refusal}
use Rattle.csvw_meta_core.specs.declared.fault.Refusal.TheVariants as refusal
use Rattle.csvw_meta_core.specs.Links.{told, no_url}
use Rattle.csvw_meta_core.specs.Pointer.{below}
use Rattle.csvw_meta_notes.specs.Unlisted.{all_notes, all_warnings}
use Rattle.csvw_meta_inherited.specs.Datatype.{given_datatype}
use Rattle.csvw_meta_inherited.specs.Inherited.{uri_templates, cell_texts, inherited}
use Rattle.csvw_meta_core.specs.declared.context.Context.{Context}
use Rattle.csvw_meta_core.specs.declared.profile.Profile.TheVariants.{Core}
use Rattle.csvw_meta_core.specs.Context.{in_profile, plain_context}
use Rattle.csvw_meta_core.specs.Read.{over}
use Rattle.csvw_meta_core.specs.Reads.{Fails}
use Rattle.csvw_meta.specs.Body.{given_dialect, body}
use Rattle.csvw_meta.specs.Described.{described, within}
use Rattle.csvw_meta.specs.Document.{IsFault, document_faults, judged, plain_description}
use Rattle.csvw_meta.specs.Group.{no_group}
use Rattle.csvw_meta.specs.Table.{table_of}
use Rattle.csvw_meta.specs.UrlAlone.{IsOfUrl, plain_document}
use Rattle.csvw_meta.proofs.OverLemmas.{none_in}

-- the pointer of the URL
abbrev at_url : List ℕ
at_url = below [] (codes "url")

bad_url : (f : MetaFault) → record { code = BadUrl; pointer = at_url } ≡ f → IsOfUrl f
bad_url f is = record { pointer = sym (ap (λ (g : MetaFault). g.pointer) is); code = inl (sym (ap (λ (g : MetaFault). g.code) is)) }

long_url : (f : MetaFault) → record { code = UrlTooLong; pointer = at_url } ≡ f → IsOfUrl f
long_url f is = record { pointer = sym (ap (λ (g : MetaFault). g.pointer) is); code = inr (sym (ap (λ (g : MetaFault). g.code) is)) }

-- what a text that is no URL is told by
of_told : (r : Result Parts iri.Refusal) (f : MetaFault) → Contains (told at_url no_url r).faults f → IsOfUrl f
of_told (Ok url) f c = absurd (none_in f c)
of_told (Err too_long) f (zero, lt, is) = long_url f is
of_told (Err too_long) f (suc k, lt, is) = absurd (omega (arith, lt))
of_told (Err bad) f (zero, lt, is) = bad_url f is
of_told (Err bad) f (suc k, lt, is) = absurd (omega (arith, lt))

-- the same with nothing after it
of_told_alone : (r : Result Parts iri.Refusal) (f : MetaFault) → Contains (((told at_url no_url r).faults ++ []) ++ []) f → IsOfUrl f
of_told_alone (Ok url) f c = of_told (Ok url) f c
of_told_alone (Err too_long) f c = of_told (Err too_long) f c
of_told_alone (Err bad) f c = of_told (Err bad) f c

-- within a context
faults_within : (c : Context) (url : List ℕ) (f : MetaFault) → Contains (within c [] (plain_document url)).faults f → IsOfUrl f
unfolding table_of given_dialect body inherited uri_templates cell_texts given_datatype all_notes all_warnings
faults_within c url f h = of_told_alone (base_of (Some c.base) url) f h

-- at the URL of the document
faults_at : (base : Parts) (url : List ℕ) (f : MetaFault) → Contains (described Core base [] (plain_document url)).faults f → IsOfUrl f
faults_at base url f c = faults_within (in_profile Core (plain_context base)) url f c

over_told : (r : Result Parts iri.Refusal) (url : List ℕ) (f : MetaFault)
    → Contains (over no_group (told at_url no_url r) (λ base. described Core base [] (plain_document url))).faults f → IsOfUrl f
over_told (Ok base) url f c = faults_at base url f c
over_told (Err too_long) url f c = of_told (Err too_long) f c
over_told (Err bad) url f c = of_told (Err bad) f c

url_faults : (url : List ℕ) (f : MetaFault) → IsFault (plain_description url) f → IsOfUrl f
unfolding judged
url_faults url f c = over_told (base_of None url) url f c

-- what a call that reads the document is refused with
pub refused_by_url : (url : List ℕ) (e : Refusal) (f : MetaFault) → e ≡ refusal.Fault f → Fails e (document_faults (plain_description url)) → IsOfUrl f
refused_by_url url e f is h = url_faults url f (subst (λ r. Fails r (document_faults (plain_description url))) is h)
