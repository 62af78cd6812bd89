-- Resources that are read from their files, one after the other.
use Rattle.std.proofs.Common.{◌≡◌, ◌∙◌, ◌<◌, ◌+◌, ℕ, suc, List, [], ◌∷◌, ◌++◌, refl, sym, subst, ap, inl, inr, drop, get_or, length}
use Rattle.std.proofs.Common.{take, take-append-drop, Option}
use Rattle.std.proofs.lemmas.List.{take_more}
use Rattle.std.proofs.Math.Seq.{drop-cons}
use Rattle.csvw_streams.specs.declared.counted.Counted.{Counted}
use Rattle.csvw_bundle.specs.declared.resource.Resource.{Resource}
use Rattle.csvw_engine_core.specs.declared.stop.Stop.{Stop}
use Rattle.csvw_engine_core.specs.declared.stop.Stop.TheVariants as stop
use Rattle.csvw_files.specs.declared.resources.ResourceFile.{ResourceFile}
use Rattle.csvw_files.specs.ResourceFiles.{ReadsNoResource, ReadsResource, ReadsResources, StopsReading}

module _ {O R : Type 0} (opens : O → List ℕ → Option R → O → Type 0) (closes : O → Counted R → O → Type 0) (remaining : R → Option (List ℕ)) where
  -- one resource more
  reads_next : (files : List ResourceFile) (old : O) (resources : List Resource) (between : O) (file : ResourceFile) (r : Resource) (new : O)
      → ReadsResources opens closes remaining files old resources between → ReadsResource opens closes remaining file between new r
      → ReadsResources opens closes remaining (files ++ file ∷ []) old (resources ++ r ∷ []) new
  reads_next [] old [] between file r new all one = record {
    between = new;
    one = subst (λ o. ReadsResource opens closes remaining file o new r) all.1 one;
    rest = (refl, refl);
  }
  reads_next [] old (x ∷ resources) between file r new all one = (let none = all.0 in cc)
  reads_next (f ∷ files) old [] between file r new all one = absurd all
  reads_next (f ∷ files) old (x ∷ resources) between file r new all one = record {
    between = all.between;
    one = all.one;
    rest = reads_next files all.between resources between file r new all.rest one;
  }

  -- the files in front, one more, and the others
  parts : (files : List ResourceFile) (i : ℕ) (d : ResourceFile) → i < length files → files ≡ take i files ++ (get_or files i d ∷ drop (suc i) files)
  parts files i d below = sym (take-append-drop i files) ∙ ap (λ xs. take i files ++ xs) (drop-cons files i d below)

  module _ (files : List ResourceFile) (i : ℕ) (d : ResourceFile) (old : O) (resources : List Resource) (between new : O) (below : i < length files)
      (all : ReadsResources opens closes remaining (take i files) old resources between) where
    -- the next resource was read
    pub reads_more : (r : Resource) → ReadsResource opens closes remaining (get_or files i d) between new r
        → ReadsResources opens closes remaining (take (i + 1) files) old (resources ++ r ∷ []) new
    reads_more r one = subst (λ front. ReadsResources opens closes remaining front old (resources ++ r ∷ []) new)
        (sym (take_more files i d below)) (reads_next (take i files) old resources between (get_or files i d) r new all one)

    -- the next resource can't be read
    pub stops_at : (reason : Stop) → ReadsNoResource opens closes (get_or files i d) between new reason
        → StopsReading opens closes remaining files old new reason
    stops_at reason fails = record {
      front = take i files;
      rest = get_or files i d ∷ drop (suc i) files;
      parts = parts files i d below;
      resources = resources;
      between = between;
      read = all;
      fails = inr fails;
    }

    -- there is no memory to keep it
    pub lacks_room : (r : Resource) → ReadsResource opens closes remaining (get_or files i d) between new r
        → StopsReading opens closes remaining files old new stop.Memory
    lacks_room r one = record {
      front = take (i + 1) files;
      rest = drop (i + 1) files;
      parts = sym (take-append-drop (i + 1) files);
      resources = resources ++ r ∷ [];
      between = new;
      read = reads_more r one;
      fails = inl (refl, refl);
    }
