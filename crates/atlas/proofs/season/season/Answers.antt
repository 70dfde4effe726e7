use Rattle.std.proofs.Common.{◌≡◌, ℕ, ◌+◌, ◌*◌, ◌<◌, min, List, [], ◌∷◌, ◌++◌, map, length, get_or, take, drop, set, sym, ap, ◌∙◌, subst, arith}
use Rattle.std.proofs.lemmas.List.{append-nil, take_all, take_more_set, drop_more, drop-set-lt, at_drop_all}
use Rattle.atlas.specs.Blocks.{blocks_in}
use Rattle.atlas.specs.Calls.{Held, opened, history, left_by}
use Rattle.atlas.specs.Holding.{held_of, bytes_of, places_of}
use Rattle.atlas.specs.FirstLegs.{Behind}
use Rattle.atlas.specs.Seasons.{call_of, AllFulfilled}
use Rattle.atlas.specs.declared.request.Request.{Request}
use Rattle.atlas.proofs.AfterCalls.{history_calls}
use Rattle.atlas.proofs.AnyCalls.{season_law}
use Rattle.atlas.proofs.Joining.{behind_more}
use Rattle.atlas.proofs.Lending.{labels_first}
use Rattle.atlas.proofs.Requests.{KeptSo, kept_on, leaves_on, left_on}
use Rattle.atlas.proofs.season.season.Goals as goal

pub loop-request-preserved : goal.loop-request-preserved
loop-request-preserved g c =
    let sense = g.L.Label.sense in
    let means = g.N.Network.means in
    let k = c.loop-request.request-index in
    let before = c.args.requests.now in
    let now = c.loop-request.requests in
    let q = get_or now k c.request-item.result in
    let r = c.serve.new.request in
    let a = c.open-atlas.result in
    let b = c.loop-request.atlas in
    let d = c.serve.new.self in
    let low : k < length now = omega (arith, c.loop-request.auto.requests, c.loop-request-test.true) in
    let rest : drop (k + 1) now ≡ drop (k + 1) before = (behind_more k (k + 1) before now (omega arith) (c.loop-request.auto.requests, c.loop-request.invariant.0)).1 in
    let left : drop k before ≡ q ∷ drop (k + 1) before = sym c.loop-request.invariant.0 ∙ drop_more now k c.request-item.result low ∙ ap (λ (x : List (Request g.row.N.Denot)). q ∷ x) rest in (
      drop-set-lt (k + 1) now k r (omega arith) ∙ rest,
      leaves_on sense means (held_of a) (held_of b) (held_of d) before (drop k before) (drop (k + 1) before) (take k now) (take (k + 1) (set now k r)) q r c.loop-request.invariant.1 left (take_more_set now k r low) c.serve.ensures.request c.serve.ensures.held,
      left_on sense means (held_of b) (held_of d) (left_by sense (held_of a) (map (call_of means) before)) (drop k before) (drop (k + 1) before) q c.loop-request.invariant.2 left c.serve.ensures.held,
      subst (λ (s : Held g.row.L.Denot). KeptSo s (bytes_of a) (bytes_of d) (places_of a) (places_of d)) (sym c.serve.ensures.held) (kept_on sense (held_of b) (bytes_of a) (bytes_of b) (bytes_of d) (places_of a) (places_of b) (places_of d) c.loop-request.invariant.3 (call_of means q) c.serve.ensures.written),
    )

pub returns : goal.returns
unfolding held_of places_of
returns g c =
    let sense = g.L.Label.sense in
    let means = g.N.Network.means in
    let k = c.loop-request.request-index in
    let before = c.args.requests.now in
    let now = c.loop-request.requests in
    let calls = map (call_of means) before in
    let a = c.open-atlas.result in
    let b = c.loop-request.atlas in
    let blocks = blocks_in c.args.bytes.now in
    let places = min (length c.args.places.now) 250 in
    let s₀ : Held g.row.L.Denot = opened blocks places in
    let done : drop k before ≡ [] = at_drop_all (λ (x : List (Request g.row.N.Denot)). x) before k c.loop-request-test.false in
    let ended = c.loop-request.invariant.1 [] (subst (λ (x : List (Request g.row.N.Denot)). AllFulfilled sense (history sense (held_of b) (map (call_of means) x)) x []) (sym done) tt) in
    let whole : take k now ++ [] ≡ now = append-nil (take k now) ∙ take_all k now (omega (arith, c.loop-request.auto.requests, c.loop-request-test.false)) in
    let all : AllFulfilled sense (history sense s₀ calls) before now = subst (λ (s : Held g.row.L.Denot). AllFulfilled sense (history sense s calls) before now) c.open-atlas.ensures.held (subst (λ (x : List (Request g.row.N.Denot)). AllFulfilled sense (history sense (held_of a) calls) before x) whole ended) in
    let so = c.loop-request.invariant.3 in
    record {
      requests = all;
      held = ap (λ (x : List (Request g.row.N.Denot)). left_by sense (held_of b) (map (call_of means) x)) (sym done) ∙ c.loop-request.invariant.2 ∙ ap (λ (s : Held g.row.L.Denot). left_by sense s calls) c.open-atlas.ensures.held;
      memory = record {
        forms = so.forms;
        free = subst (λ (x : List ℕ). Behind (4161 * length (held_of b).forms) x (bytes_of b)) c.open-atlas.ensures.bytes so.free;
        labels = sym (labels_first b.legend);
        unused = subst (λ (x : List g.row.L.Denot). Behind (length (held_of b).legend) x (places_of b)) c.open-atlas.ensures.places so.unused;
      };
      law = record {
        past = history sense s₀ calls;
        calls = history_calls sense s₀ calls;
        fulfilled = all;
        lawful = season_law sense blocks places calls (omega arith);
      };
    }
