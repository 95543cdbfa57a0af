-- The record of a fault (IOMMU specification, section 3.2, "Fault/Event-Queue (FQ)").
use Rattle.iom_fault_queue.specs.declared.record.Fault.{Fault}
use Rattle.iom_fault_queue.specs.declared.record.FaultedRequest.{FaultedRequest}
use Rattle.iom_fault_queue.specs.Fields.{Fields, iotval2_of}

-- it tells the cause, who asked, for what, and at which address; iotval2 tells of the guest physical address
abbrev pub record_of : FaultedRequest → Fault → Fields
record_of request fault = record {
  cause = fault.cause;
  transaction = request.transaction;
  device = request.device;
  iotval = request.address;
  iotval2 = iotval2_of fault.cause fault.guest_address fault.implicit;
}
