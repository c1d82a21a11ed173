-- Verdicts that are kept by the identifier words of frames.
use Rattle.std.specs.Prelude.{◌≡◌, ℕ, Bool, true, false, ◌==◌, ◌&&◌, ◌||◌, List, All}
use Rattle.std.specs.Prelude.{Option, nat_le}
use Rattle.gw_frame.specs.Record.{IsRecord, word_of}
use Rattle.gw_insn.specs.declared.insn.Insn.{Insn}
use Rattle.gw_insn.specs.Form.{Form, Load, LoadIndexed, LoadLength, LoadConstant, LoadScratch, Store, LoadNibble, Alu, Negate}
use Rattle.gw_insn.specs.Form.{Jump, Branch, ReturnConstant, ReturnA, Tax, Txa, Word, Half, Byte, form}
use Rattle.gw_ledger.specs.Ports.{has_port, ports_below}
use Rattle.gw_policy.specs.Filter.{Filter}
use Rattle.gw_policy.specs.Batches.{PortPolicies, passes, policy_at}
use Rattle.gw_policy.specs.declared.verdict_cache.Verdicts.{Verdicts}
use Rattle.gw_policy.specs.declared.verdict_cache.VerdictCache.{VerdictCache}

-- a policy to which records of one word are alike
abbrev pub IsByWord : Option Filter → Type 0
IsByWord policy =
    (one other : List ℕ) (port : ℕ) → IsRecord one → IsRecord other → word_of one ≡ word_of other
    → passes policy one port ≡ passes policy other port

-- an instruction that loads nothing but a record's first four octets, which are its word, or the port where it was taken: a word
-- load at SKF_AD_OFF + SKF_AD_IFINDEX (Linux, include/uapi/linux/filter.h)
abbrev pub takes_word_alone : Form → Bool
takes_word_alone (Load Word k) = (k == 0) || (k == 0xfffff008)
takes_word_alone (Load Half k) = nat_le k 2
takes_word_alone (Load Byte k) = nat_le k 3
takes_word_alone (LoadIndexed width k) = false
takes_word_alone (LoadLength r) = false
takes_word_alone (LoadConstant r k) = true
takes_word_alone (LoadScratch r k) = true
takes_word_alone (Store r k) = true
takes_word_alone (LoadNibble k) = false
takes_word_alone (Alu operation operand) = true
takes_word_alone Negate = true
takes_word_alone (Jump k) = true
takes_word_alone (Branch comparison operand jt jf) = true
takes_word_alone (ReturnConstant k) = true
takes_word_alone ReturnA = true
takes_word_alone Tax = true
takes_word_alone Txa = true

-- a code all of whose instructions are such
abbrev pub TakesWordAlone : List Insn → Type 0
TakesWordAlone code = All (λ insn. takes_word_alone (form insn) ≡ true) code

-- the policies of these ports judge by the word
abbrev pub AreByWord : PortPolicies → List ℕ → Type 0
AreByWord set ports = (port : ℕ) → has_port port ports ≡ true → IsByWord (policy_at port set)

-- of the ports that were judged just these pass a frame which was taken at a port
abbrev pub ArePassing : PortPolicies → List ℕ → ℕ → List ℕ → List ℕ → Type 0
ArePassing set frame from judged passing =
    passing ≡ ports_below 16 (λ port. has_port port judged && passes (policy_at port set) frame from)

-- just these pass each record of the word
abbrev pub Tells : PortPolicies → Verdicts → Type 0
Tells set verdicts = (frame : List ℕ) → IsRecord frame → word_of frame ≡ verdicts.word
    → ArePassing set frame verdicts.from verdicts.judged verdicts.passing

-- all that is kept is told of these policies
abbrev pub Keeps : PortPolicies → VerdictCache → Type 0
Keeps set cache = All (Tells set) cache.places
