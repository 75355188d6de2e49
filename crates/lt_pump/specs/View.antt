-- What the types of a pump stand for in the definitions.
use Rattle.std.specs.Prelude.{ℕ}
use Rattle.lt_terms.specs.Key as keys
use Rattle.lt_words.specs.Reply as replies
use Rattle.lt_tables.specs.Pump as replies_tables
use Rattle.lt_core.specs.View.{view_range}
use Rattle.lt_fair.specs.View.{view_unfair}
use Rattle.lt_pump.specs.declared.refusal.AttachRefusal.{AttachRefusal}
use Rattle.lt_pump.specs.declared.refusal.AttachRefusal.TheVariants as refusals
use Rattle.lt_pump.specs.declared.refusal.PumpFault.{PumpFault}
use Rattle.lt_pump.specs.declared.refusal.PumpFault.TheVariants as faults
use Rattle.lt_pump.specs.declared.stop.Pumped.{Pumped}
use Rattle.lt_pump.specs.declared.stop.Stop.{Stop}
use Rattle.lt_pump.specs.declared.stop.Stop.TheVariants as stops
use Rattle.lt_pump.specs.declared.subscription.Subscription.{Subscription}

-- the keys of a subscription, and the timestamp that its changes are above
abbrev pub view_subscription : Subscription → keys.Range × ℕ
view_subscription s = (view_range s.range, s.from)

abbrev pub view_stop : Stop → replies_tables.Stop
view_stop stops.Count = replies_tables.at_count
view_stop stops.End = replies_tables.at_end
view_stop stops.Partial = replies_tables.at_partial
view_stop (stops.Malformed bad) = replies_tables.at_malformed bad
view_stop (stops.Unfair u) = replies_tables.at_unfair (view_unfair u)

-- the reply to a pump of a stream
abbrev pub view_pumped : ℕ → Pumped → replies.Reply
view_pumped stream p = replies.pump_done stream p.records p.offset p.checkpoint (view_stop p.stop)

-- the refusal of a pump of a stream
abbrev pub view_fault : ℕ → PumpFault → replies.Refusal
view_fault stream faults.NoStream = replies.no_stream stream
view_fault stream faults.Feed = replies.feed_fault
view_fault stream faults.Memory = replies.out_of_memory

abbrev pub view_refusal : AttachRefusal → replies.Refusal
view_refusal (refusals.Mismatch stream) = replies.feed_mismatch stream
view_refusal refusals.Feed = replies.feed_fault
view_refusal refusals.Memory = replies.out_of_memory
