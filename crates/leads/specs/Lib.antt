pub mod LeadTrace
pub mod LeadCompared
pub mod LeadAnswers
pub mod InnerLead
pub mod InnerHeld
