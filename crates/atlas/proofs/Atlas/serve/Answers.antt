use Rattle.std.proofs.Common.{◌≡◌, sym, ap, ◌∙◌, subst}
use Rattle.atlas.specs.Answering.{Says, Carried, WrittenFor, finding, put_to}
use Rattle.atlas.specs.Calls.{Call}
use Rattle.atlas.specs.Holding.{held_of, bytes_of, places_of}
use Rattle.atlas.specs.Seasons.{ask_of, call_of}
use Rattle.atlas.specs.declared.Atlas.{Atlas}
use Rattle.atlas.specs.declared.request.Ask.{Ask as CodeAsk}
use Rattle.atlas.proofs.Requests.{fulfil, find_still}
use Rattle.atlas.proofs.Atlas.serve.Goals as goal
use Rattle.atlas.proofs.Atlas.serve.Goals.{in-Enter, in-Find}

pub returns : goal.returns
returns g c =
    let sense = g.L.Label.sense in
    let q = c.args.request.now in
    let n = g.N.Network.means q.network in
    let a = c.args.self.now in
    let s = held_of a in
    let call = call_of g.N.Network.means q in
    let asked : CodeAsk → Call g.row.L.Denot = λ k. record { ask = ask_of k; net = n; allowance = q.allowance } in
    elim c.match-request.branch [
      | in-Enter w ↦
          let done = subst (λ (x : Call g.row.L.Denot). Carried sense (put_to sense s x) w.enter-answer.result q.place w.enter-answer.new.place a w.enter-answer.new.self) (sym (ap asked w.in-Enter.is)) w.enter-answer.ensures.carried in
          record {
            request = fulfil q c.match-request.request c.match-request.answer w.enter-answer.new.place (put_to sense s call).reply w.request-is (w.answer-is ∙ done.says.answer) done.says.place;
            held = ap held_of w.self-is ∙ done.held;
            written = subst (λ (x : Atlas g.row.L.Denot). WrittenFor (put_to sense s call).reply (put_to sense s call).held (bytes_of a) (bytes_of x) (places_of a) (places_of x)) (sym w.self-is) done.written;
          }
      | in-Find w ↦
          let is : call ≡ finding n q.allowance = ap asked w.in-Find.is in
          let say = subst (λ (x : Call g.row.L.Denot). Says (put_to sense s x).reply w.find-answer.result q.place w.find-answer.new.place) (sym is) w.find-answer.ensures.answer in
          let still = find_still sense s call (ap (λ (x : Call g.row.L.Denot). x.ask) is) in
          record {
            request = fulfil q c.match-request.request c.match-request.answer w.find-answer.new.place (put_to sense s call).reply w.request-is (w.answer-is ∙ say.answer) say.place;
            held = ap held_of w.self-is ∙ sym still.0;
            written = subst (λ (x : Atlas g.row.L.Denot). WrittenFor (put_to sense s call).reply (put_to sense s call).held (bytes_of a) (bytes_of x) (places_of a) (places_of x)) (sym w.self-is) (still.1 (bytes_of a) (places_of a));
          }
    ]
