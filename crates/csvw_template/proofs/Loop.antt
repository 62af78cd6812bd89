-- Reading the pieces one after another, as a loop does.
use Rattle.std.proofs.Common.{◌≡◌, ℕ, ◌+◌, ◌<◌, ◌≤◌, List, ◌∷◌, ◌++◌, Ok, Err, length, map, drop, get_or, refl, sym, ap, ◌∙◌, append_assoc, suc}
use Rattle.std.proofs.Common.{add-one, drop-cons}
use Rattle.std.specs.Borrow.{Bor}
use Rattle.std.proofs.lemmas.List.{append-nil, drop_all}
use Rattle.csvw_template.specs.declared.part.Part.{Part}
use Rattle.csvw_template.specs.declared.fault.TemplateFault.{TemplateFault}
use Rattle.csvw_template.specs.declared.fault.TemplateFault.TheVariants.{Memory, TooLong, BadTemplate, TemplateLevel}
use Rattle.csvw_text.specs.Gives.{Expected}
use Rattle.csvw_template.specs.Fault.{◌>>=◌, told}
use Rattle.csvw_template.specs.Reading.{Parts, opened, all_opened}

abbrev pub with_front : List Part → Parts → Parts
with_front front r = r >>= λ es. Ok (front ++ es)

regroup : (front e : List Part) (r : Parts) → with_front front (r >>= λ es. Ok (e ++ es)) ≡ with_front (front ++ e) r
regroup front e (Ok es) = ap (λ (ps : List Part). let r : Parts = Ok ps in r) (sym (append_assoc front e es))
regroup front e (Err f) = refl

abbrev pub texts : List (Bor (List ℕ)) → List (List ℕ)
texts ps = map (λ x. x.now) ps

module _ (ps : List (Bor (List ℕ))) (i : ℕ) (p : Bor (List ℕ)) (lt : i < length ps) (is : p ≡ get_or ps i p) (front : List Part) (total : Parts)
    (so_far : with_front front (all_opened (texts (drop i ps))) ≡ total) where
  here : drop i ps ≡ p ∷ drop (i + 1) ps
  here = rw add-one (drop-cons ps i p lt ∙ ap (λ x. x ∷ drop (suc i) ps) (sym is))

  now : with_front front (opened p.now >>= λ e. all_opened (texts (drop (i + 1) ps)) >>= λ es. Ok (e ++ es)) ≡ total
  now = rw here at so_far

  pub goes_on : (e : List Part) → opened p.now ≡ Ok e → with_front (front ++ e) (all_opened (texts (drop (i + 1) ps))) ≡ total
  goes_on e h = sym (regroup front e (all_opened (texts (drop (i + 1) ps)))) ∙ (rw h at now)

  pub ends : (e : TemplateFault) → Expected (told e) (opened p.now) → Expected (told e) total
  ends Memory h = tt
  ends TooLong h = sym now ∙ rw h refl
  ends BadTemplate h = sym now ∙ rw h refl
  ends TemplateLevel h = sym now ∙ rw h refl

pub is_done : (ps : List (Bor (List ℕ))) (i : ℕ) (front : List Part) (total : Parts) → length ps ≤ i
    → with_front front (all_opened (texts (drop i ps))) ≡ total → total ≡ Ok front
is_done ps i front total le so_far = sym (rw (drop_all i ps le) at so_far) ∙ ap (λ (qs : List Part). let r : Parts = Ok qs in r) (append-nil front)
