-- A run over a reader after some reads, and where it stops.
use Rattle.std.proofs.Common.{◌≡◌, ℕ, ◌+◌, ◌<◌, ◌≤◌, ◌^◌, List, [], ◌++◌, length, take, refl, sym, ap, ◌∙◌, subst, append-nil, length-append, inl, inr, arith}
use Rattle.std.proofs.Common.{Bool, Option, Ok, Err}
use Rattle.std.proofs.lemmas.List.{length-take-le}
use Rattle.std.specs.Io.KnownBytes.{Consumes}
use Rattle.std.proofs.KnownBytes.{Appends-nil, Consumes-nil, Consumes-trans}
use Rattle.csvw_streams.specs.declared.counted.Counted.{Counted}
use Rattle.csvw_streams.specs.Count.{one_more}
use Rattle.csvw_streams.specs.Counted.{inner_of, failures_of}
use Rattle.csvw_streams.specs.Streams.{Stream, Sends, stream_of}
use Rattle.csvw_key_records.specs.declared.feed.KeyFeed.{KeyFeed}
use Rattle.csvw_key_records.specs.declared.record.KeyRecord.{KeyRecord}
use Rattle.csvw_key_records.specs.declared.stop.KeyStop.{KeyStop}
use Rattle.csvw_key_records.specs.declared.stop.KeyStop.TheVariants as stop
use Rattle.csvw_key_records.specs.declared.stop.LineFault.TheVariants as fault
use Rattle.csvw_key_records.specs.JudgesKeys.{Blames, EndsAt, Gives, JudgesAll, JudgesFront}
use Rattle.csvw_key_records.specs.Runs.{EndsValid, EndsWrong, Fed, Feeds, Halts, IsAfter, IsOwn, IsWrong, SentBefore, StopsFeed}
use Rattle.csvw_key_records.proofs.Feeding.{rests}

-- the feed took what the reader gave by so many reads
pub record IsFed {R W : Type 0} (remaining : R → Option (List ℕ)) (contents : W → Option (List ℕ)) (old new : Counted R) (out_old out_new : Counted W)
    (feed : KeyFeed) (reads : ℕ) : Type 0 where
  pub text : List ℕ
  pub fed : Fed feed text (stream_of contents out_old out_new)
  pub consumed : Consumes (remaining (inner_of old)) (remaining (inner_of new)) text
  pub steady : failures_of new ≡ failures_of old
  pub many : reads ≤ length text

blames_own : {R : Type 0} (old new : Counted R) (text : List ℕ) (reason : KeyStop) → IsOwn reason → failures_of new ≡ failures_of old → Blames old new text reason
blames_own old new text stop.Memory own steady = steady
blames_own old new text stop.Read own steady = absurd own
blames_own old new text stop.Write own steady = steady
blames_own old new text (stop.Line n wrong) own steady = steady

ended_own : (left : Option (List ℕ)) (reason : KeyStop) → IsOwn reason → EndsAt left reason
ended_own left stop.Memory own = tt
ended_own left stop.Read own = tt
ended_own left stop.Write own = tt
ended_own left (stop.Line n fault.NoRecord) own = tt
ended_own left (stop.Line n fault.Cut) own = absurd own
ended_own left (stop.Line n fault.TooLong) own = tt
ended_own left (stop.Line n fault.Order) own = tt
ended_own left (stop.Line n fault.Twice) own = tt
ended_own left (stop.Line n fault.Row) own = tt

-- a feed can stop with `Memory` and `Read` as it stands
rests_fed : (feed : KeyFeed) (text : List ℕ) (s : Stream) (reason : KeyStop) → Fed feed text s
    → ((t : List ℕ) → Sends s t → SentBefore reason s t) → ((n : ℕ) → IsAfter n reason)
    → ((records : List KeyRecord) → IsWrong records feed.unread.items reason) → Halts text s reason
rests_fed feed text s reason fed sent after wrong =
    subst (λ t. Halts t s reason) (sym fed.is_text) (rests feed.run fed.front feed.unread.items s reason fed.runs sent (λ n lines. after n) wrong)

length_taken : {A : Type 0} (n : ℕ) (xs : List A) → n ≤ length xs → length (take n xs) ≡ n
length_taken n xs within = length-take-le n xs within

module _ {R W : Type 0} (remaining : R → Option (List ℕ)) (contents : W → Option (List ℕ)) where
  -- before the first read
  pub fed_none : (reader : Counted R) (out : Counted W) (feed : KeyFeed) → ((s : Stream) → Sends s [] → Fed feed [] s)
      → IsFed remaining contents reader reader out out feed 0
  fed_none reader out feed none = record {
    text = [];
    fed = none (stream_of contents out out) (Appends-nil (contents (inner_of out)), refl);
    consumed = Consumes-nil (remaining (inner_of reader));
    steady = refl;
    many = omega arith;
  }

  module _ (old mid : Counted R) (out_old out_mid : Counted W) (feed : KeyFeed) (reads : ℕ) (is : IsFed remaining contents old mid out_old out_mid feed reads) where
    pub stops_full : JudgesFront remaining contents old mid out_old out_mid stop.Memory
    stops_full = record {
      text = is.text;
      halts = rests_fed feed is.text (stream_of contents out_old out_mid) stop.Memory is.fed (λ t sent. sent) (λ n. tt) (λ records. tt);
      consumed = is.consumed;
      blames = is.steady;
      ended = tt;
    }

    pub stops_many : 2 ^ 40 ≤ reads → JudgesFront remaining contents old mid out_old out_mid stop.Read
    stops_many large = record {
      text = is.text;
      halts = rests_fed feed is.text (stream_of contents out_old out_mid) stop.Read is.fed (λ t sent. sent) (λ n. tt) (λ records. tt);
      consumed = is.consumed;
      blames = let many = is.many in inr (omega (arith, many, large), is.steady);
      ended = tt;
    }

    module _ (new : Counted R) (room : List ℕ) where
      pub stops_read : (reason : KeyStop) → Gives remaining mid new room (Err reason) → JudgesFront remaining contents old new out_old out_mid reason
      stops_read stop.Memory gives = absurd gives
      stops_read stop.Read gives = record {
        text = is.text;
        halts = rests_fed feed is.text (stream_of contents out_old out_mid) stop.Read is.fed (λ t sent. sent) (λ n. tt) (λ records. tt);
        consumed = subst (Consumes (remaining (inner_of old)) (remaining (inner_of new))) (append-nil is.text)
            (Consumes-trans (remaining (inner_of old)) (remaining (inner_of mid)) (remaining (inner_of new)) is.text [] is.consumed gives.0);
        blames = inl (gives.1 ∙ ap one_more is.steady);
        ended = tt;
      }
      stops_read stop.Write gives = absurd gives
      stops_read (stop.Line n wrong) gives = absurd gives

      module _ (n : ℕ) (gives : Gives remaining mid new room (Ok n)) where
        taken : Consumes (remaining (inner_of old)) (remaining (inner_of new)) (is.text ++ take n room)
        taken = Consumes-trans (remaining (inner_of old)) (remaining (inner_of mid)) (remaining (inner_of new)) is.text (take n room) is.consumed gives.1

        still : failures_of new ≡ failures_of old
        still = gives.3 ∙ is.steady

        -- the bytes of a read were fed
        pub fed_more : (next : KeyFeed) (out_new : Counted W) → 0 < n → Feeds contents feed next out_mid out_new (take n room)
            → IsFed remaining contents old new out_old out_new next (reads + 1)
        fed_more next out_new some feeds = record {
          text = is.text ++ take n room;
          fed = feeds is.text (contents (inner_of out_old)) (failures_of out_old) is.fed;
          consumed = taken;
          steady = still;
          many =
              let long = length_taken n room gives.0 in
              let all = length-append is.text (take n room) in
              let many = is.many in
              omega (arith, long, all, many);
        }

        -- the feed stopped in them
        pub stops_fed : (out_new : Counted W) (reason : KeyStop) → IsOwn reason → StopsFeed contents feed out_mid out_new (take n room) reason
            → JudgesFront remaining contents old new out_old out_new reason
        stops_fed out_new reason own stops = record {
          text = is.text ++ take n room;
          halts = stops is.text (contents (inner_of out_old)) (failures_of out_old) is.fed;
          consumed = taken;
          blames = blames_own old new (is.text ++ take n room) reason own still;
          ended = ended_own (remaining (inner_of new)) reason own;
        }

        module _ (none : n ≡ 0) where
          at_end : Consumes (remaining (inner_of old)) (remaining (inner_of new)) is.text
          at_end = subst (Consumes (remaining (inner_of old)) (remaining (inner_of new))) (ap (λ k. is.text ++ take k room) none ∙ append-nil is.text) taken

          pub ends_all : (valid : Bool) → EndsValid feed valid → JudgesAll remaining contents old new out_old out_mid valid
          ends_all valid ends =
              let e = ends is.text (stream_of contents out_old out_mid) is.fed in record {
                records = e.records;
                faults = e.faults;
                judged = e.judged;
                consumed = subst (Consumes (remaining (inner_of old)) (remaining (inner_of new))) e.is_text at_end;
                at_end = gives.2 none;
                steady = still;
                sent = e.sends;
                valid_is = e.valid_is;
              }

          pub ends_wrong : (reason : KeyStop) (k : ℕ) → reason ≡ stop.Line k fault.Cut → EndsWrong feed reason
              → JudgesFront remaining contents old new out_old out_mid reason
          ends_wrong reason k cut ends =
              subst (JudgesFront remaining contents old new out_old out_mid) (sym cut) record {
                text = is.text;
                halts = subst (EndsWrong feed) cut ends is.text (stream_of contents out_old out_mid) is.fed;
                consumed = at_end;
                blames = still;
                ended = gives.2 none;
              }
