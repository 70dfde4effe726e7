-- Going through stations one by one, where each changes a growing list of labels: what is left gives the whole.
use Rattle.std.proofs.Common.{◌≡◌, ℕ, ◌+◌, ◌-◌, ◌<◌, ◌≤◌, true, false, leb, List, [], ◌∷◌, length, ℤ, Option, sym, refl, ap, ◌∙◌, arith, le-leb}
use borrow.Author.Tests.{lt-leb}
use Rattle.std.specs.List.{range_with_len}
use Rattle.std.proofs.lemmas.Bool.{leb-false}
use Rattle.survey.specs.Networks.{Net}
use Rattle.atlas.specs.Drafts.{net_of, labels_with, most_labels}
use Rattle.atlas.specs.Legends.{noted, noted_row, noted_rows}
use Rattle.atlas.specs.Lent.{labels_of}
use Rattle.atlas.specs.declared.draft.Draft.{Draft}
use Rattle.atlas.specs.declared.legend.Legend.{Legend}
use Rattle.atlas.proofs.Loops.{counting_on}
use Rattle.atlas.proofs.NotingLegs.{all_fit}
use Rattle.atlas.proofs.Reading.{read_ok}
use Rattle.atlas.proofs.Senses.{noted_row_grown, noted_rows_grown}

-- step x makes of a list another, and all steps of a list of stations make what `all` says
pub record Stepwise {L : Type 0} (step : ℕ → List L → List L) (all : List ℕ → List L → List L) : Type 0 where
  pub none : (ls : List L) → all [] ls ≡ ls
  pub more : (x : ℕ) (xs : List ℕ) (ls : List L) → all (x ∷ xs) ls ≡ all xs (step x ls)
  pub longer : (xs : List ℕ) (ls : List L) → length ls ≤ length (all xs ls)

-- noting the legs from one station
pub row : {L : Type 0} (sense : L → List ℤ) (f : ℕ → Option L) → Stepwise (λ v ls. noted sense ls (f v)) (noted_row sense f)
row sense f = record { none = λ ls. refl; more = λ v vs ls. refl; longer = λ vs ls. (noted_row_grown sense f vs ls).longer }

-- and from several
pub rows :
    {L : Type 0} (sense : L → List ℤ) (f : ℕ → ℕ → Option L) (vs : List ℕ) → Stepwise (λ u ls. noted_row sense (f u) vs ls) (λ us ls. noted_rows sense f us vs ls)
rows sense f vs = record { none = λ ls. refl; more = λ u us ls. refl; longer = λ us ls. (noted_rows_grown sense f us vs ls).longer }

module _ {L : Type 0} {step : ℕ → List L → List L} {all : List ℕ → List L → List L} (by : Stepwise step all) where
  one : (v n : ℕ) (ls : List L) → v < n → all (range_with_len v (n - v)) ls ≡ all (range_with_len (v + 1) (n - (v + 1))) (step v ls)
  one v n ls h =
      ap (λ (vs : List ℕ). all vs ls) (counting_on v (n - v) (omega arith))
      ∙ by.more v (range_with_len (v + 1) (n - v - 1)) ls
      ∙ ap (λ (k : ℕ). all (range_with_len (v + 1) k) (step v ls)) (omega arith)

  -- a step that makes too long a list makes the whole too long
  step_over :
      (v n cap : ℕ) (ls total : List L) → v < n → all (range_with_len v (n - v)) ls ≡ total → false ≡ leb (length (step v ls)) cap → false ≡ leb (length total) cap
  step_over v n cap ls total h e f =
      let long = leb-false (length (step v ls)) cap (sym f) in
      let grown = by.longer (range_with_len (v + 1) (n - (v + 1))) (step v ls) in
      let size = ap length (sym (one v n ls h) ∙ e) in
      sym (lt-leb (length total) cap (omega arith))

  -- after a step, what is left gives the whole
  step_again :
      (v n : ℕ) (ls ms total : List L) → v < n → all (range_with_len v (n - v)) ls ≡ total → ms ≡ step v ls → all (range_with_len (v + 1) (n - (v + 1))) ms ≡ total
  step_again v n ls ms total h e f = ap (all (range_with_len (v + 1) (n - (v + 1)))) f ∙ sym (one v n ls h) ∙ e

  -- when nothing is left, that is the whole
  step_ends : (v n : ℕ) (ls total : List L) → n ≤ v → all (range_with_len v (n - v)) ls ≡ total → ls ≡ total
  step_ends v n ls total h e =
      sym (by.none ls) ∙ ap (λ (k : ℕ). all (range_with_len v k) ls) {x = 0} {y = n - v} (omega arith) ∙ e

-- a draft whose labels change station by station, against a legend
module _ {N L : Type 0} {w : _} {b : _} where
  -- the draft d has become s before station v: the stations that are left give what all give, and nothing else changed
  abbrev pub Noting : (all : Net L → List ℕ → List L → List L) (d : Draft N L w b) → Legend L → Draft N L w b → ℕ → Type 0
  Noting all d l s v =
      record {
        labels : all (net_of d) (range_with_len v ((net_of d).count - v)) (labels_with s l) ≡ all (net_of d) (range_with_len 0 (net_of d).count) (labels_with d l);
        net : net_of s ≡ net_of d;
        most : s.most ≡ d.most;
      }

  module _ {step : Net L → ℕ → List L → List L} {all : Net L → List ℕ → List L → List L} (by : (k : Net L) → Stepwise (step k) (all k)) (d : Draft N L w b) (l : Legend L) (s : Draft N L w b) (v : ℕ) (before : Noting all d l s v) where
    abbrev n : Net L
    n = net_of d

    count : d.stations ≡ n.count
    count = (read_ok b.sense n d.stations (sym d.read)).0

    -- after a station it is so of the next
    pub noting_on :
        (t : Draft N L w b) → v < d.stations → labels_with t l ≡ step (net_of s) v (labels_with s l) → net_of t ≡ net_of s → t.most ≡ s.most → Noting all d l t (v + 1)
    noting_on t h labels net most = record {
      labels = step_again (by n) v n.count (labels_with s l) _ _ (omega (arith, count)) before.labels (labels ∙ ap (λ (k : Net L). step k v (labels_with s l)) before.net);
      net = net ∙ before.net;
      most = most ∙ before.most;
    }

    -- a station whose labels find no place shows that all find none
    pub noting_over :
        v < d.stations → false ≡ leb (length (step (net_of s) v (labels_with s l))) (most_labels s l) → false ≡ leb (length (all n (range_with_len 0 n.count) (labels_with d l))) (most_labels d l)
    noting_over h over =
        step_over (by n) v n.count (most_labels d l) (labels_with s l) _ (omega (arith, count)) before.labels
        (over
        ∙ ap (λ (k : Net L). leb (length (step k v (labels_with s l))) (most_labels s l)) before.net
        ∙ ap (λ (m : ℕ). leb (length (step n v (labels_with s l))) (length (labels_of l) + m)) before.most)

    -- after the last station
    pub noting_ends :
        d.stations ≤ v →
        record {
          fits : true ≡ leb (length (all n (range_with_len 0 n.count) (labels_with d l))) (most_labels d l);
          labels : labels_with s l ≡ all n (range_with_len 0 n.count) (labels_with d l);
          net : net_of s ≡ n;
          most : s.most ≡ d.most;
        }
    unfolding labels_with
    noting_ends h =
        let whole = step_ends (by n) v n.count (labels_with s l) _ (omega (arith, count)) before.labels in
        let fit = all_fit b.sense (labels_of l) (net_of s).leg s.legs.items s.most s.there s.within in
        record {
          fits = sym (le-leb (length (all n (range_with_len 0 n.count) (labels_with d l))) (most_labels d l) (omega (arith, ap length whole, fit, before.most)));
          labels = whole;
          net = before.net;
          most = before.most;
        }
